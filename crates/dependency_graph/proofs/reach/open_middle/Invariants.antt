-- The table is filled from the front; words not yet reached are as they came (Filled).
use Rattle.dependency_graph.proofs.Prelude.{get_or, through}
use Rattle.dependency_graph.proofs.Face.{Filling}
use Rattle.dependency_graph.proofs.reach.open_middle.Given as goal

abbrev pub invariant-loop-u : goal.invariant-loop-u
invariant-loop-u l = Filling l.unit_count l.u (λ i. through (get_or l.initial.table i 0) l.k (get_or l.initial.table l.k 0)) l.initial.table l.table
