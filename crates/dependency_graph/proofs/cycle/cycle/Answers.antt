-- A unit on a cycle is in its own reach.
use Rattle.dependency_graph.proofs.Prelude.{ap, ◌∙◌, ℕ, has, units_of, cycle}
use Rattle.dependency_graph.proofs.Face.{word_same}
use Rattle.dependency_graph.proofs.cycle.cycle.Goals as goal

pub returns : goal.returns
unfolding cycle units_of
returns c = c.own_members.ensures ∙ word_same _ _ _ (λ u l. ap (λ (w : ℕ). has w u) (c.fill_reach.ensures.filled u l))
