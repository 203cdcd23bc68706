-- The table is filled from the front with paths of one edge (Filled).
use Rattle.dependency_graph.proofs.Prelude.{reach_via, units_of}
use Rattle.dependency_graph.proofs.Face.{Filling}
use Rattle.dependency_graph.proofs.reach.fill_direct.Given as goal

abbrev pub invariant-loop-u : goal.invariant-loop-u
invariant-loop-u l = Filling l.plan.unit_count l.u (reach_via (units_of l.plan) 0) l.initial.table l.table
