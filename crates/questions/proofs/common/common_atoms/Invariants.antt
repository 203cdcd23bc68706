-- The words are right for the positions passed so far (CommonSoFar).
use Rattle.questions.proofs.CommonAtoms.{CommonSoFar}
use Rattle.questions.proofs.common.common_atoms.Given as goal

abbrev pub invariant-loop-position : goal.invariant-loop-position
invariant-loop-position l = CommonSoFar l.list l.all l.some l.position-index
