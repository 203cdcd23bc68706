-- From the start there is no such position.
use Rattle.finding.proofs.Prelude.{elsewhere}
use Rattle.finding.proofs.Face.{place_kept}
use Rattle.finding.proofs.gather.place_in.Goals as goal

pub returns-in_err-p : goal.returns-in_err-p
returns-in_err-p c = rw c.from_residual.ensures elsewhere

pub returns : goal.returns
returns c = place_kept c.in_ok-p.was c.kept.ensures
