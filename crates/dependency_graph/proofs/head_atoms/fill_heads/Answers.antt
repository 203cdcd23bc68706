-- H(u) is the own head atoms, those of the units reached, and the given atoms (PlanUnits).
use Rattle.dependency_graph.proofs.Prelude.{needs}
use Rattle.dependency_graph.proofs.Face.{heads_filled}
use Rattle.dependency_graph.proofs.head_atoms.fill_heads.Goals as goal

pub returns : goal.returns
returns c = search (heads_filled, needs)
