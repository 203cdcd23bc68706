-- Either word has some of the free atoms.
use Rattle.answer_sets.proofs.Prelude.{needs}
use Rattle.answer_sets.proofs.Face.{some_free}
use Rattle.answer_sets.proofs.tried.tried_next.Goals as goal

pub most_wanted-requires : goal.most_wanted-requires
most_wanted-requires c = search (some_free, needs)
