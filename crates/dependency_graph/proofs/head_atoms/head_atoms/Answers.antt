-- Hp(u) is the union of H(v) over the direct predecessors, with the given atoms (PlanUnits).
use Rattle.dependency_graph.proofs.Face.{inputs_filled}
use Rattle.dependency_graph.proofs.head_atoms.head_atoms.Goals as goal

pub returns : goal.returns
returns c = record { heads_are = c.fill_heads.ensures.filled; inputs_are = (inputs_filled _ c.fill_heads.ensures c.fill_unions.ensures).filled }
