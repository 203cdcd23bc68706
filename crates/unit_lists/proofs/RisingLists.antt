-- Rising lists: lists within one another, and what a search has gathered where its members are known.
use Rattle.unit_lists.proofs.Prelude.{◌≡◌, refl, sym, ap, ◌∙◌, Bool, ◌⊎◌, inl, inr, List, [], ◌∷◌, ◌++◌, List-as-Memᴰ, Memᴰ-head, Memᴰ-tail}
use Rattle.unit_lists.proofs.Prelude.{Memᴰ-not-nil, Memᴰ-cases_cons, ℕ, ◌*◌, ◌≤◌, ◌<◌, arith, length, take, set, replicate, take-append-drop}
use Rattle.unit_lists.proofs.Prelude.{length-take, length-replicate, paste, Rising, rising_nil, rising_cons, above_at, rising_ext, LIST_WORDS}
use Rattle.unit_lists.proofs.Prelude.{FoundFromNone, ListStored, MembersStored}
use Rattle.atoms.specs.Lists.{padded}
use Rattle.searching.specs.Listing.{Ordered, Gathered, fits, over}

-- ---- rising lists of which one is within the other

rising_longer : (xs ys : List ℕ) → Rising xs → Rising ys → ((x : ℕ) → List-as-Memᴰ x xs → List-as-Memᴰ x ys) → length xs ≤ length ys
rising_longer [] ys r s f = omega arith
rising_longer (x ∷ xs) [] r s f = absurd (Memᴰ-not-nil (f x (Memᴰ-head refl)))
rising_longer (x ∷ xs) (y ∷ ys) (rising_cons a r) (rising_cons b s) f =
    omega (arith, rising_longer xs ys r s (λ z m. behind z m (Memᴰ-cases_cons (f z (Memᴰ-tail m)))))
  where
    -- a member behind x is above x, which is y or above it
    first : (z : ℕ) → List-as-Memᴰ z xs → z ≡ y → (x ≡ y) ⊎ List-as-Memᴰ x ys → ⊥
    first z m e (inl q) = omega (arith, above_at a z m)
    first z m e (inr k) = omega (arith, above_at a z m, above_at b x k)

    behind : (z : ℕ) → List-as-Memᴰ z xs → (z ≡ y) ⊎ List-as-Memᴰ z ys → List-as-Memᴰ z ys
    behind z m (inl e) = absurd (first z m e (Memᴰ-cases_cons (f x (Memᴰ-head refl))))
    behind z m (inr k) = k

-- ---- a list in its 256 words

-- 256 zeros are a list with no members
pub zeros_ordered : Ordered (replicate {A = ℕ} LIST_WORDS 0) 0
zeros_ordered = record { long = length-replicate {A = ℕ} LIST_WORDS 0; small = omega arith; rising = rising_nil; zeros = refl }

ordered_count : {list : List ℕ} {k : ℕ} → Ordered list k → length (take k list) ≡ k
ordered_count {list} {k} o = length-take k list ∙ omega (arith, o.long, o.small)

ordered_padded : (list : List ℕ) (k : ℕ) → Ordered list k → list ≡ padded LIST_WORDS (take k list)
unfolding padded
ordered_padded list k o = sym (take-append-drop k list) ∙ ap (λ (ys : List ℕ). take k list ++ ys) (o.zeros ∙ rw (ordered_count o))

module _ (Member : ℕ → Type 0) (members : List ℕ) (rising : Rising members)
    (only : (x : ℕ) → Member x → List-as-Memᴰ x members)
    (each : (x : ℕ) → List-as-Memᴰ x members → Member x) where
  grown_member : (x : ℕ) → FoundFromNone Member x → List-as-Memᴰ x members
  grown_member x (inl m) = absurd (Memᴰ-not-nil m)
  grown_member x (inr w) = only x w

  -- a count within 256 is the number of members, and the list has just them
  gathered_fits : (list : List ℕ) (k : ℕ) → Gathered (FoundFromNone Member) list k → k ≤ LIST_WORDS
      → (list ≡ padded LIST_WORDS members) × (k ≡ length members)
  gathered_fits list k (fits o s c) l =
      let whole : take k list ≡ members =
      rising_ext (take k list) members o.rising rising (λ x m. grown_member x (s x m)) (λ x m. c x (inr (each x m))) in
      (ordered_padded list k o ∙ ap (padded LIST_WORDS) whole, sym (ordered_count o) ∙ ap length whole)
  gathered_fits list k (over o left) l = absurd (omega arith)

  gathered_long : (list : List ℕ) (k : ℕ) → Gathered (FoundFromNone Member) list k → LIST_WORDS < k
      → LIST_WORDS < length members
  gathered_long list k (fits o s c) l = absurd (omega (arith, o.small))
  gathered_long list k (over o left) l =
      omega (arith, rising_longer o.many members o.rising rising (λ x m. grown_member x (o.sound x m)), o.long)

  pub members_stored : {place : ℕ} {table counts table' counts' : List ℕ} {b : Bool}
      → ListStored Member place table counts table' counts' b
      → MembersStored members place table counts table' counts' b
  members_stored {place} {table} {counts} s = record {
    when_fits = λ e.
        let f = s.when_fits e in
        let g = gathered_fits s.list s.count s.gathered f.0 in
        let same = g.1 in
        let few = f.0 in (
          omega arith,
          f.1 ∙ ap (λ (l : List ℕ). paste table (LIST_WORDS * place) l LIST_WORDS) g.0,
          f.2 ∙ ap (set counts place) same,
        );
    when_long = λ e. let f = s.when_long e in (gathered_long s.list s.count s.gathered f.0, f.1, f.2);
  }
