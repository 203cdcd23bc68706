-- The table is filled from the front (Filled).
use Rattle.dependency_graph.proofs.Prelude.{get_or, ◌∪◌, union_in}
use Rattle.dependency_graph.proofs.Face.{Filling}
use Rattle.dependency_graph.proofs.head_atoms.fill_unions.Given as goal

abbrev pub invariant-loop-u : goal.invariant-loop-u
invariant-loop-u l = Filling l.unit_count l.u (λ i. l.given ∪ union_in l.unit_count (get_or l.which i 0) (λ v. get_or l.words v 0)) l.initial.table l.table
