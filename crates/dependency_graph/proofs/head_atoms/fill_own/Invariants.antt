-- The table is filled from the front (Filled).
use Rattle.dependency_graph.proofs.Prelude.{own, units_of}
use Rattle.dependency_graph.proofs.Face.{Filling}
use Rattle.dependency_graph.proofs.head_atoms.fill_own.Given as goal

abbrev pub invariant-loop-u : goal.invariant-loop-u
invariant-loop-u l = Filling l.plan.unit_count l.u (own (units_of l.plan)) l.initial.table l.table
