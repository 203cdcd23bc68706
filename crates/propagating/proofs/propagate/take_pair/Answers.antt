-- The pair is one that is avoided, so that a copy of it may be kept.
use Rattle.propagating.proofs.Prelude.{arith}
use Rattle.learning.proofs.HeededSteps.{pair_narrows, copied_keeps}
use Rattle.propagating.proofs.propagate.take_pair.Goals as goal

pub returns : goal.returns
returns c = record {
  narrows = pair_narrows _ (omega arith) c.read_pair-pair.ensures c.refute-t.ensures.narrows;
  keeps = copied_keeps _ (omega arith) c.read_pair-pair.ensures c.copy_pair.ensures.keeps c.note_step-top.ensures.same;
}
