-- EDGEs: the rows of predecessors as sets.
use Rattle.reading.proofs.Prelude.{◌≡◌, refl, subst, ap, ◌∙◌, Bool, true, false, ◌||◌, true≢false, ℕ, ◌<◌, get_or, leb-false, eqb-false, bad_edge, Plan}
use Rattle.reading.proofs.Prelude.{Has, has, subset, atom, decides_has, decides_subset, has_atom, atom_only, decides_same}

-- a set with the one atom v lies within w exactly if w has v
pub subset_atom : (v w : ℕ) → subset (atom v) w ≡ has w v
subset_atom v w =
    decides_same (decides_subset (atom v) w) (decides_has w v) (λ s. s.each v (has_atom v))
    (λ h. record { each = λ i p. subst (λ (j : ℕ). Has w j) (atom_only v p) h })

pub has_by_subset : (v w a : ℕ) (r : Bool) → a ≡ atom v → r ≡ subset a w → r ≡ has w v
has_by_subset v w a r e s = s ∙ ap (λ (x : ℕ). subset x w) e ∙ subset_atom v w

pub or-false : (a b : Bool) → a || b ≡ false → (a ≡ false) × (b ≡ false)
or-false true b e = absurd (true≢false e)
or-false false b e = (refl, e)

-- an edge that is not bad joins two units that are there, and is new
pub record NewEdge (p : Plan) (u v : ℕ) : Type 0 where
  pub from_there : u < p.unit_count
  pub to_there : v < p.unit_count
  pub apart : ¬ (u ≡ v)
  pub fresh : has (get_or p.predecessors u 0) v ≡ false

pub not_bad_edge : (p : Plan) (u v : ℕ) → bad_edge p u v ≡ false → NewEdge p u v
unfolding bad_edge
not_bad_edge p u v e =
    let a = or-false _ _ e in
    let b = or-false _ _ a.0 in
    let c = or-false _ _ b.0 in
    record { from_there = leb-false _ _ c.0; to_there = leb-false _ _ c.1; apart = eqb-false _ _ b.1; fresh = a.1 }
