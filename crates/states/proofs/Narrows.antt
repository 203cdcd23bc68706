-- Narrowing passes: they compose, and what keeps every position of interest.
use Rattle.states.proofs.Prelude.{◌⊎◌, inl, inr, ℕ, Has, ◌⊆◌, Apart, ◌∪◌, atom, subset_refl, subset_trans, has_left, has_right, has_atom, union_cases}
use Rattle.states.proofs.Prelude.{atom_only, Completes, Overlaps, Wanted, Narrows, clashed, State}

pub narrows_refl : {K : ℕ → Type 0} {s : State} → Narrows K s s
narrows_refl = record { up_grows = subset_refl; dropped_grows = subset_refl; keeps = λ N k p. p }

pub narrows_trans : {K : ℕ → Type 0} {s t u : State} → Narrows K s t → Narrows K t u → Narrows K s u
narrows_trans f g = record {
  up_grows = subset_trans f.up_grows g.up_grows;
  dropped_grows = subset_trans f.dropped_grows g.dropped_grows;
  keeps = λ N k p. g.keeps N k (f.keeps N k p);
}

-- a pass that keeps more keeps less; that it keeps more need only hold of completions
pub narrows_when : {K L : ℕ → Type 0} {s t : State} → ((N : ℕ) → L N → Completes s N → K N) → Narrows K s t → Narrows L s t
narrows_when f n =
    record { up_grows = n.up_grows; dropped_grows = n.dropped_grows; keeps = λ N l p. n.keeps N (f N l p) p }

pub narrows_for : {K L : ℕ → Type 0} {s t : State} → ((N : ℕ) → L N → K N) → Narrows K s t → Narrows L s t
narrows_for f n = narrows_when (λ N l p. f N l) n

-- a completion of the larger state completes the smaller one
pub completes_back : {K : ℕ → Type 0} {s t : State} {N : ℕ} → Narrows K s t → Completes t N → Completes s N
completes_back n p = record {
  has_up = subset_trans n.up_grows p.has_up;
  no_dropped = record { none = λ i d. p.no_dropped.none i (n.dropped_grows.each i d) };
}

-- of what is wanted: the same is, where the same is of interest; so it is before and after a step
pub wanted_for : {K L : ℕ → Type 0} {s : State} → ((N : ℕ) → K N → L N) → (N : ℕ) → Wanted K s N → Wanted L s N
wanted_for f N w = record { belongs = f N w.belongs; completes = w.completes }

pub wanted_back : {K : ℕ → Type 0} {s t : State} → Narrows K s t → (N : ℕ) → Wanted K t N → Wanted K s N
wanted_back n N w = record { belongs = w.belongs; completes = completes_back n w.completes }

pub wanted_after : {K : ℕ → Type 0} {s t : State} → Narrows K s t → (N : ℕ) → Wanted K s N → Wanted K t N
wanted_after n N w = record { belongs = w.belongs; completes = n.keeps N w.belongs w.completes }

-- a completion that has an atom completes the state with the atom up, and one that has it not the state with it dropped
pub with_up_lem : (s : State) (i : ℕ) {N : ℕ} → Completes s N → Has N i
    → Completes (record { up = s.up ∪ atom i; dropped = s.dropped }) N
with_up_lem s i {N} c h = record {
  has_up = record { each = λ j p. go j (union_cases s.up (atom i) p) };
  no_dropped = c.no_dropped;
}
  where
    go : (j : ℕ) → Has s.up j ⊎ Has (atom i) j → Has N j
    go j (inl p) = c.has_up.each j p
    go j (inr p) = rw (atom_only i p) at h

pub with_dropped_lem : (s : State) (i : ℕ) {N : ℕ} → Completes s N → ¬ Has N i
    → Completes (record { up = s.up; dropped = s.dropped ∪ atom i }) N
with_dropped_lem s i {N} c h = record {
  has_up = c.has_up;
  no_dropped = record { none = λ j p q. go j q (union_cases s.dropped (atom i) p) };
}
  where
    go : (j : ℕ) → Has N j → Has s.dropped j ⊎ Has (atom i) j → ⊥
    go j q (inl p) = c.no_dropped.none j p q
    go j q (inr p) = h (rw (atom_only i p) q)

-- the same with several atoms
pub with_all_up : (s : State) (w : ℕ) {N : ℕ} → Completes s N → w ⊆ N → Completes (record { up = s.up ∪ w; dropped = s.dropped }) N
with_all_up s w {N} c f = record {
  has_up = record { each = λ j p. go j (union_cases s.up w p) };
  no_dropped = c.no_dropped;
}
  where
    go : (j : ℕ) → Has s.up j ⊎ Has w j → Has N j
    go j (inl p) = c.has_up.each j p
    go j (inr p) = f.each j p

pub with_all_dropped : (s : State) (w : ℕ) {N : ℕ} → Completes s N → Apart w N
    → Completes (record { up = s.up; dropped = s.dropped ∪ w }) N
with_all_dropped s w {N} c a = record {
  has_up = c.has_up;
  no_dropped = record { none = λ j p q. go j q (union_cases s.dropped w p) };
}
  where
    go : (j : ℕ) → Has N j → Has s.dropped j ⊎ Has w j → ⊥
    go j q (inl p) = c.no_dropped.none j p q
    go j q (inr p) = a.none j p q

-- and back
pub without_up : (s : State) (i : ℕ) {N : ℕ} → Completes (record { up = s.up ∪ atom i; dropped = s.dropped }) N → Completes s N
without_up s i c = record {
  has_up = record { each = λ j p. c.has_up.each j (has_left s.up (atom i) p) };
  no_dropped = c.no_dropped;
}

pub without_dropped : (s : State) (i : ℕ) {N : ℕ} → Completes (record { up = s.up; dropped = s.dropped ∪ atom i }) N
    → Completes s N
without_dropped s i c = record {
  has_up = c.has_up;
  no_dropped = record { none = λ j p. c.no_dropped.none j (has_left s.dropped (atom i) p) };
}

-- nothing completes a state in which an atom is both up and dropped
pub overlap_none : {s : State} {N : ℕ} → Overlaps s → Completes s N → ⊥
overlap_none h p = h.overlap (record { none = λ i u d. p.no_dropped.none i d (p.has_up.each i u) })

-- so where nothing of interest completes a state it may clash
pub clash_overlaps : (s : State) → Overlaps (clashed s)
unfolding clashed
clash_overlaps s = record {
  overlap = λ n. n.none 0 (has_right s.up (atom 0) (has_atom 0)) (has_right s.dropped (atom 0) (has_atom 0));
}

pub clash_narrows : {K : ℕ → Type 0} (s : State) → ((N : ℕ) → K N → ¬ Completes s N) → Narrows K s (clashed s)
unfolding clashed
clash_narrows s h = record {
  up_grows = record { each = λ i p. has_left s.up (atom 0) p };
  dropped_grows = record { each = λ i p. has_left s.dropped (atom 0) p };
  keeps = λ N k p. absurd (h N k p);
}

-- atoms that every position of interest has may go up
pub up_narrows : {K : ℕ → Type 0} (s : State) (w : ℕ) → ((N : ℕ) → K N → Completes s N → w ⊆ N)
    → Narrows K s (record { up = s.up ∪ w; dropped = s.dropped })
up_narrows {K} s w h = record {
  up_grows = record { each = λ i p. has_left s.up w p };
  dropped_grows = subset_refl;
  keeps = λ N k p. record { has_up = record { each = λ i q. go N k p i (union_cases s.up w q) }; no_dropped = p.no_dropped };
}
  where
    go : (N : ℕ) → K N → Completes s N → (i : ℕ) → Has s.up i ⊎ Has w i → Has N i
    go N k p i (inl q) = p.has_up.each i q
    go N k p i (inr q) = (h N k p).each i q

-- and atoms that none of them has may be dropped
pub down_narrows : {K : ℕ → Type 0} (s : State) (w : ℕ) → ((N : ℕ) → K N → Completes s N → Apart w N)
    → Narrows K s (record { up = s.up; dropped = s.dropped ∪ w })
down_narrows {K} s w h = record {
  up_grows = subset_refl;
  dropped_grows = record { each = λ i p. has_left s.dropped w p };
  keeps = λ N k p. record {
    has_up = p.has_up;
    no_dropped = record { none = λ i q m. go N k p i m (union_cases s.dropped w q) };
  };
}
  where
    go : (N : ℕ) → K N → Completes s N → (i : ℕ) → Has N i → Has s.dropped i ⊎ Has w i → ⊥
    go N k p i m (inl q) = p.no_dropped.none i q m
    go N k p i m (inr q) = (h N k p).none i q m
