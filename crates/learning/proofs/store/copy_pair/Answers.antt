-- Nothing is written, or one pair.
use Rattle.learning.proofs.Prelude.{refl, arith}
use Rattle.learning.proofs.Face.{keeps_refl, keeps_written}
use Rattle.learning.proofs.store.copy_pair.Goals as goal

pub returns-then-at-ge-COPIES : goal.returns-then-at-ge-COPIES
returns-then-at-ge-COPIES c = record { keeps = keeps_refl; copied = record { room = λ l. absurd (omega (arith, l, c.if-at-ge-COPIES.true)); full = λ l. refl } }

pub returns : goal.returns
returns c = record {
  keeps = keeps_written c.write_pair.ensures.written;
  copied = record { room = λ l. c.write_pair.ensures.is; full = λ l. absurd (omega (arith, l, c.if-at-ge-COPIES.false)) };
}
