-- The loop puts together what is known of the words and of the uses that are done.
use Rattle.answer_sets.proofs.Prelude.{half_decided}
use Rattle.answer_sets.proofs.Face.{UsesDone}
use Rattle.answer_sets.proofs.uses.with_uses.Given as goal

abbrev pub invariant-loop-i : goal.invariant-loop-i
invariant-loop-i l = UsesDone l.fn.rules l.fn.rule (half_decided l.fn.up l.fn.dropped) l.known l.i-iterator.rest
