-- Nogoods: what lies within what, what a pair that is avoided says of a state, and resolution.
use Rattle.learning.proofs.Prelude.{◌≡◌, refl, sym, subst, ◌∙◌, ℕ, ℕ_discrete, Has, ◌⊆◌, Apart, ◌∩◌, ◌∖◌, atom, has_none, has_left, has_right}
use Rattle.learning.proofs.Prelude.{has_without, without_left, without_right, has_dec, atom_only, some_atom, shared_atom, apart_of_cut, Completes}
use Rattle.learning.proofs.Prelude.{Narrows, Within, Overlaps, SomeUp, SomeDown, OneGoes, State, narrows_when, overlap_none}
use Rattle.learning.proofs.Prelude.{completes_within, Avoids, Nogood, resolvent, Resolves}
use Rattle.states.proofs.Narrows.{narrows_for}
use Rattle.states.proofs.OneAtom.{none_left}

-- ---- what lies within what

-- who avoids the smaller avoids the larger, so a pair with a nogood within it is one
pub avoids_larger : {n m : State} {N : ℕ} → Within n m → Avoids n N → Avoids m N
avoids_larger w a = record { never = λ c. a.never (completes_within w c) }

pub nogood_larger : {K : ℕ → Type 0} {n m : State} → Within n m → Nogood K n → Nogood K m
nogood_larger w g = record { avoided = λ N k. avoids_larger w (g.avoided N k) }

-- nothing of interest completes a state with a nogood within it
pub nogood_stops : {K : ℕ → Type 0} {n s : State} → Nogood K n → Within n s → (N : ℕ) → K N → ¬ Completes s N
nogood_stops g w N k c = (g.avoided N k).never (completes_within w c)

-- a state that overlaps is a nogood
pub overlap_avoided : {s : State} (N : ℕ) → Overlaps s → Avoids s N
overlap_avoided N o = record { never = λ c. overlap_none o c }

-- a step that keeps who avoids the pair keeps whoever has K
pub nogood_narrows : {K : ℕ → Type 0} {n s t : State} → Nogood K n → Narrows (Avoids n) s t → Narrows K s t
nogood_narrows g m = narrows_for (λ N k. g.avoided N k) m

-- ---- a pair that is avoided

-- where nothing of a word is missing it is within the other
missing_none : (a b : ℕ) {w : ℕ} → w ≡ a ∖ b → w ≡ 0 → a ⊆ b
missing_none a b {w} e z = record { each = λ i h. found i h (has_dec b i) }
  where
    found : (i : ℕ) → Has a i → Dec (Has b i) → Has b i
    found i h (yes k) = k
    found i h (no k) = absurd (has_none (subst (λ (x : ℕ). Has x i) (sym e ∙ z) (has_without a b h k)))

-- the empty word
within_all : {w N : ℕ} → w ≡ 0 → w ⊆ N
within_all z = record { each = λ i h. absurd (has_none (rw z at h)) }

apart_all : {w N : ℕ} → w ≡ 0 → Apart w N
apart_all z = record { none = λ i h m. has_none (rw z at h) }

module _ (n s : State) {up dropped : ℕ} (u : up ≡ n.up ∖ s.up) (d : dropped ≡ n.dropped ∖ s.dropped) where
  -- a completion of the state has all the pair's up atoms but missing ones, and none of its dropped ones but missing ones
  has_wanted : {N : ℕ} → Completes s N → up ⊆ N → n.up ⊆ N
  has_wanted {N} c f = record { each = λ i h. found i h (has_dec s.up i) }
    where
      found : (i : ℕ) → Has n.up i → Dec (Has s.up i) → Has N i
      found i h (yes k) = c.has_up.each i k
      found i h (no k) = f.each i (rw u (has_without n.up s.up h k))

  lacks_barred : {N : ℕ} → Completes s N → Apart dropped N → Apart n.dropped N
  lacks_barred {N} c f = record { none = λ i h m. found i h m (has_dec s.dropped i) }
    where
      found : (i : ℕ) → Has n.dropped i → Has N i → Dec (Has s.dropped i) → ⊥
      found i h m (yes k) = c.no_dropped.none i k m
      found i h m (no k) = f.none i (rw d (has_without n.dropped s.dropped h k)) m

  -- where none of its up atoms is missing, one is up that the pair has dropped
  avoided_up : up ≡ 0 → (N : ℕ) → Avoids n N → Completes s N → SomeUp dropped N
  avoided_up z N a c = found (ℕ_discrete (dropped ∩ N) 0)
    where
      found : Dec (dropped ∩ N ≡ 0) → SomeUp dropped N
      found (yes e) =
          absurd (a.never (record { has_up = has_wanted c (within_all z); no_dropped = lacks_barred c (apart_of_cut dropped N e) }))
      found (no e) = let i = shared_atom dropped N e in record { atom = i.0; in_word = i.1; is_up = i.2 }

  -- where none of its dropped atoms is missing, one is dropped that the pair has up
  avoided_down : dropped ≡ 0 → (N : ℕ) → Avoids n N → Completes s N → SomeDown up N
  avoided_down z N a c = found (ℕ_discrete (up ∖ N) 0)
    where
      found : Dec (up ∖ N ≡ 0) → SomeDown up N
      found (yes e) =
          absurd (a.never (record { has_up = has_wanted c (missing_none up N refl e); no_dropped = lacks_barred c (apart_all z) }))
      found (no e) =
          let i = some_atom (up ∖ N) e in
          record { atom = i.0; in_word = without_left up N i.1; is_down = without_right up N i.1 }

  pub refuted_up : {t : State} → up ≡ 0 → OneGoes (SomeUp dropped) dropped s t → Narrows (Avoids n) s t
  refuted_up z r = narrows_when (avoided_up z) r.narrows

  pub refuted_down : {t : State} → dropped ≡ 0 → OneGoes (SomeDown up) up s t → Narrows (Avoids n) s t
  refuted_down z r = narrows_when (avoided_down z) r.narrows

  -- a pair within the state has nothing missing
  pub within_up : Within n s → up ≡ 0
  within_up w = none_left n.up s.up u w.up_within

  pub within_dropped : Within n s → dropped ≡ 0
  within_dropped w = none_left n.dropped s.dropped d w.dropped_within

-- ---- resolution

pub resolution : (first second : State) (a : ℕ) → Resolves first second (resolvent first second a)
resolution first second a = record { avoided = λ N p q. record { never = λ c. go N p q c (has_dec N a) } }
  where
    go : (N : ℕ) → Avoids first N → Avoids second N → Completes (resolvent first second a) N → Dec (Has N a) → ⊥
    go N p q c (yes h) =
        p.never
        (record {
          has_up = record { each = λ i k. here i k (ℕ_discrete a i) };
          no_dropped = record { none = λ i k. c.no_dropped.none i (has_left first.dropped (second.dropped ∖ atom a) k) };
        })
      where
        here : (i : ℕ) → Has first.up i → Dec (a ≡ i) → Has N i
        here i k (yes e) = rw e at h
        here i k (no e) =
            c.has_up.each i (has_left (first.up ∖ atom a) second.up (has_without first.up (atom a) k (λ m. e (atom_only a m))))
    go N p q c (no h) =
        q.never
        (record {
          has_up = record { each = λ i k. c.has_up.each i (has_right (first.up ∖ atom a) second.up k) };
          no_dropped = record { none = λ i k m. here i k m (ℕ_discrete a i) };
        })
      where
        here : (i : ℕ) → Has second.dropped i → Has N i → Dec (a ≡ i) → ⊥
        here i k m (yes e) = h (rw e m)
        here i k m (no e) =
            c.no_dropped.none i
            (has_right first.dropped (second.dropped ∖ atom a) (has_without second.dropped (atom a) k (λ x. e (atom_only a x)))) m

pub resolves_equal : (first second : State) (a : ℕ) {r : State} → r ≡ resolvent first second a
    → (r ≡ resolvent first second a) × Resolves first second r
resolves_equal first second a {r} e = (e, rw e (resolution first second a))

-- two nogoods resolve to a nogood
pub nogood_resolved : {K : ℕ → Type 0} {first second r : State} → Resolves first second r → Nogood K first → Nogood K second → Nogood K r
nogood_resolved r f g = record { avoided = λ N k. r.avoided N (f.avoided N k) (g.avoided N k) }

-- what is resolved of two pairs does not tell which came first
pub resolves_either : {n m r : State} → Resolves n m r → Resolves m n r
resolves_either e = record { avoided = λ N a b. e.avoided N b a }

-- a state that overlaps is a nogood of whatever is of interest
pub overlap_nogood : {K : ℕ → Type 0} {n : State} → Overlaps n → Nogood K n
overlap_nogood o = record { avoided = λ N k. overlap_avoided N o }
