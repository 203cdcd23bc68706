-- The ring's place is noted behind the pairs, then the pair is written within the ring.
use Rattle.learning.proofs.Prelude.{arith}
use Rattle.learning.proofs.Face.{learnt_at, learnt_is}
use Rattle.learning.proofs.store.learn.Goals as goal

pub returns : goal.returns
returns c = record {
  learnt = learnt_at _ (omega arith) c.note.ensures.same c.write_pair.ensures.written;
  is = learnt_is c.args.n c.args.memory.now c.next_place.ensures c.note.ensures.is c.write_pair.ensures.is;
}
