-- The steps are taken, and the node is searched.
use Rattle.searching.proofs.Prelude.{refl}
use Rattle.searching.proofs.Face.{sought_branch}
use Rattle.searching.proofs.Calculus.{witnesses}
use Rattle.searching.proofs.subsets.find_model.Goals as goal

pub returns-clause-witnessed : goal.returns-clause-witnessed
returns-clause-witnessed c =
    let told = sought_branch c.root-branch.ensures c.enter-node.ensures c.seek-found.ensures in
    rw c.front_of.ensures at (witnesses (λ M w. w.belongs.word) told.searched refl told.shows)
