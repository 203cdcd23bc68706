-- The rule is noted for its head atoms without those of its body.
use Rattle.narrowing.proofs.Prelude.{needs}
use Rattle.narrowing.proofs.Face.{rule_backs}
use Rattle.narrowing.proofs.backers.back_by.Goals as goal

pub returns : goal.returns
returns c = search (rule_backs, needs)
