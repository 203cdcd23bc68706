-- `with_rule` meets its contract: the words stand where the definition puts them.
use Rattle.plan.proofs.Prelude.{with_rule, needs}
use Rattle.plan.proofs.record.with_rule.Goals as goal

pub returns : goal.returns
unfolding with_rule
returns c = search needs
