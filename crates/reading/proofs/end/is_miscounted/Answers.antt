-- `is_miscounted` meets its contract, test by test.
use Rattle.reading.proofs.Prelude.{needs}
use Rattle.reading.proofs.Sizes.{not_declared, rules_differ, units_differ, edges_tell}
use Rattle.reading.proofs.end.is_miscounted.Goals as goal

pub returns-then-read-eq0 : goal.returns-then-read-eq0
returns-then-read-eq0 c = search (not_declared, needs)

pub returns-then-read : goal.returns-then-read
returns-then-read c = search (rules_differ, needs)

pub returns-then-read-2 : goal.returns-then-read-2
returns-then-read-2 c = search (units_differ, needs)

pub returns : goal.returns
returns c = search (edges_tell, needs)
