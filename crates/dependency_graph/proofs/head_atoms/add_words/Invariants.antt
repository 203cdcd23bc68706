-- The table is filled from the front; words not yet reached are as they came (Filled).
use Rattle.dependency_graph.proofs.Prelude.{get_or, ◌∪◌}
use Rattle.dependency_graph.proofs.Face.{Filling}
use Rattle.dependency_graph.proofs.head_atoms.add_words.Given as goal

abbrev pub invariant-loop-u : goal.invariant-loop-u
invariant-loop-u l = Filling l.unit_count l.u (λ i. get_or l.words i 0 ∪ get_or l.initial.table i 0) l.initial.table l.table
