-- The greatest completion has every atom that is not dropped.
use Rattle.finding.proofs.Prelude.{needs}
use Rattle.finding.proofs.Face.{passed_all}
use Rattle.finding.proofs.gather.is_passed.Goals as goal

pub returns : goal.returns
returns c = search (passed_all, needs)
