-- `names_absent_rule` meets its contract: a word above the set of all rules that are there names another.
use Rattle.reading.proofs.Prelude.{absent_rule, needs}
use Rattle.reading.proofs.HighBits.{absent_above_below}
use Rattle.reading.proofs.unit.names_absent_rule.Goals as goal

pub returns : goal.returns
unfolding absent_rule
returns c = search (absent_above_below, needs)
