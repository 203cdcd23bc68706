-- One write.
use Rattle.learning.proofs.Prelude.{refl}
use Rattle.learning.proofs.Face.{same_pairs, same_behind}
use Rattle.learning.proofs.store.note.Goals as goal

pub returns : goal.returns
returns c = record { same = same_behind _ _ same_pairs c.requires.0; is = refl }
