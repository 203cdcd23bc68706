-- What is not up is dropped, so that the answer is the exact one.
use Rattle.answer_sets.proofs.Prelude.{has_outside}
use Rattle.answer_sets.proofs.HalfKnown.{decided_exactly, success_exactly}
use Rattle.answer_sets.proofs.known.body_holds.Goals as goal

pub returns : goal.returns
returns c =
    success_exactly
    (decided_exactly c.args.rules.now c.args.rule c.args.position c.outside.result (λ i. (c.shared_slice_known-1.given i).fits)
    (λ i l n. rw c.outside.ensures (has_outside c.args.position l n)) c.body_known.ensures)
    c.is_success.ensures
