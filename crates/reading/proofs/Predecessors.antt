-- The rows of predecessors, from the list of edges: v is in the row of u exactly if the edge (u,v) is in the list.
use Rattle.reading.proofs.Prelude.{◌≡◌, ap, ◌∙◌, subst, List, ◌∷◌, [], ◌++◌, List-as-Memᴰ, ℕ, ◌<◌, get_or, set, tabulate, Has, ◌∪◌, atom, get_or_tabulate}
use Rattle.reading.proofs.Prelude.{set_tabulate, MAX_UNITS, UnitPair, predecessors_of}
use Rattle.reading.proofs.KeyedWords.{has_entry, entry_has, word_same, word_other}

abbrev pub pair : ℕ → ℕ → UnitPair
pair u v = record { u = u; v = v }

pub pair_is : {d e : UnitPair} → d.u ≡ e.u → d.v ≡ e.v → d ≡ e
pair_is p q = λ i. record { u = p i; v = q i }

pub has_member : (edges : List UnitPair) (e : UnitPair) → Has (predecessors_of edges e.u) e.v → List-as-Memᴰ e edges
unfolding predecessors_of
has_member edges e h =
    let x = has_entry (λ d. d.u) (λ d. d.v) edges e.u e.v h in
    subst (λ (d : UnitPair). List-as-Memᴰ d edges) (pair_is x.own_key x.own_bit) x.listed

pub member_has : (edges : List UnitPair) (e : UnitPair) → List-as-Memᴰ e edges → Has (predecessors_of edges e.u) e.v
unfolding predecessors_of
member_has edges e m = entry_has (λ d. d.u) (λ d. d.v) edges e m

-- one edge more at the end
module _ (edges : List UnitPair) (x : UnitPair) where
  abbrev rows : List ℕ
  rows = tabulate MAX_UNITS (predecessors_of edges)

  pub rows_snoc : x.u < MAX_UNITS → set rows x.u (get_or rows x.u 0 ∪ atom x.v) ≡ tabulate MAX_UNITS (predecessors_of (edges ++ (x ∷ [])))
  unfolding predecessors_of
  rows_snoc h =
      set_tabulate MAX_UNITS (predecessors_of edges) (predecessors_of (edges ++ (x ∷ []))) x.u _ h
      (ap (λ (w : ℕ). w ∪ atom x.v) (get_or_tabulate MAX_UNITS (predecessors_of edges) x.u h) ∙ word_same (λ d. d.u) (λ d. d.v) edges x)
      (word_other (λ d. d.u) (λ d. d.v) edges x)
