-- Induction along the edges of an acyclic graph: what holds of a unit if it holds of its direct predecessors, holds of every unit.
-- Reach read as a number falls along each edge.
use Rattle.dependency_graph.proofs.Prelude.{ℕ, zero, suc, ◌<◌, arith, Units, Edge, Acyclic, reach}
use Rattle.dependency_graph.proofs.Heads.{edge_rank}

module _ (S : Units) (acyclic : Acyclic S) (P : ℕ → Type 0)
    (step : (u : ℕ) → u < S.units → ((v : ℕ) → Edge S u v → P v) → P u) where
  under_rank : (n u : ℕ) → reach S u < n → u < S.units → P u
  under_rank zero u r l = absurd (omega arith)
  under_rank (suc n) u r l =
      step u l (λ v e. under_rank n v (omega (arith, edge_rank S acyclic u v e)) e.is_predecessor)

  pub along_edges : (u : ℕ) → u < S.units → P u
  along_edges u l = under_rank (suc (reach S u)) u (omega arith) l
