-- Words that a list of entries fills: bit j is in the word of key k exactly if an entry has this key and this bit.
use Rattle.reading.proofs.Prelude.{◌≡◌, refl, sym, ap, ◌∙◌, subst, List, [], ◌∷◌, ◌++◌, List-as-Memᴰ, Memᴰ-head, Memᴰ-tail}
use Rattle.reading.proofs.Prelude.{Memᴰ-cases_cons, Memᴰ-append_cases, Memᴰ-not-nil, Memᴰ-eq_of_singleton, Memᴰ-append_left}
use Rattle.reading.proofs.Prelude.{Memᴰ-append_right, Bool, true, false, ◌⊎◌, inl, inr, ℕ, eqb, eqb-true, eqb-false, Has, ◌∪◌, atom, ext, has_atom}
use Rattle.reading.proofs.Prelude.{atom_only, has_left, has_right, union_cases, has_none, word_of}

module _ {A : Type 0} (key bit : A → ℕ) where
  -- an entry of the list with this key and this bit
  pub record Entry (xs : List A) (k j : ℕ) : Type 0 where
    pub entry : A
    pub listed : List-as-Memᴰ entry xs
    pub own_key : key entry ≡ k
    pub own_bit : bit entry ≡ j

  further : {x : A} {xs : List A} {k j : ℕ} → Entry xs k j → Entry (x ∷ xs) k j
  further e = record { entry = e.entry; listed = Memᴰ-tail e.listed; own_key = e.own_key; own_bit = e.own_bit }

  pub has_entry : (xs : List A) (k j : ℕ) → Has (word_of key bit xs k) j → Entry xs k j
  unfolding word_of
  has_entry [] k j h = absurd (has_none h)
  has_entry (x ∷ xs) k j h = go (eqb (key x) k) refl (has_entry xs k j)
    where
      cases : key x ≡ k → (Has (word_of key bit xs k) j → Entry xs k j) → Has (word_of key bit xs k) j ⊎ Has (atom (bit x)) j → Entry (x ∷ xs) k j
      cases q rec (inl h) = further (rec h)
      cases q rec (inr h) = record { entry = x; listed = Memᴰ-head refl; own_key = q; own_bit = atom_only (bit x) h }

      go : (b : Bool) → eqb (key x) k ≡ b → (Has (word_of key bit xs k) j → Entry xs k j) → Entry (x ∷ xs) k j
      go true t rec = cases (eqb-true _ _ t) rec (union_cases (word_of key bit xs k) (atom (bit x)) (rw (t, word_of) at h))
      go false t rec = further (rec (rw (t, word_of) at h))

  pub entry_has : (xs : List A) (x : A) → List-as-Memᴰ x xs → Has (word_of key bit xs (key x)) (bit x)
  unfolding word_of
  entry_has [] x m = absurd (Memᴰ-not-nil m)
  entry_has (y ∷ xs) x m = go (eqb (key y) (key x)) refl (Memᴰ-cases_cons m) (entry_has xs x)
    where
      go : (b : Bool) → eqb (key y) (key x) ≡ b → (x ≡ y) ⊎ List-as-Memᴰ x xs → (List-as-Memᴰ x xs → Has (word_of key bit xs (key x)) (bit x))
          → Has (word_of key bit (y ∷ xs) (key x)) (bit x)
      go true t (inl q) rec =
          let this : Has (atom (bit y)) (bit x) = subst (Has (atom (bit y))) (ap bit (sym q)) (has_atom (bit y)) in
          rw (t, word_of) (has_right (word_of key bit xs (key x)) (atom (bit y)) this)
      go true t (inr k) rec = rw (t, word_of) (has_left (word_of key bit xs (key x)) (atom (bit y)) (rec k))
      go false t (inl q) rec = absurd (eqb-false _ _ t (ap key (sym q)))
      go false t (inr k) rec = rw (t, word_of) (rec k)

  -- ---- one entry more at the end

  module _ (xs : List A) (x : A) where
    abbrev more : List A
    more = xs ++ (x ∷ [])

    kept : (k j : ℕ) → Has (word_of key bit xs k) j → Has (word_of key bit more k) j
    kept k j h = listed (has_entry xs k j h)
      where
        listed : Entry xs k j → Has (word_of key bit more k) j
        listed e =
            subst (λ (i : ℕ). Has (word_of key bit more i) j) e.own_key
            (subst (Has (word_of key bit more (key e.entry))) e.own_bit (entry_has more e.entry (Memᴰ-append_left (x ∷ []) e.listed)))

    added : Has (word_of key bit more (key x)) (bit x)
    added = entry_has more x (Memᴰ-append_right xs (Memᴰ-head refl))

    old_or_new : (k j : ℕ) → Has (word_of key bit more k) j → Has (word_of key bit xs k) j ⊎ ((key x ≡ k) × (bit x ≡ j))
    old_or_new k j h = go (has_entry more k j h)
      where
        cases : (e : Entry more k j) → List-as-Memᴰ e.entry xs ⊎ List-as-Memᴰ e.entry (x ∷ [])
            → Has (word_of key bit xs k) j ⊎ ((key x ≡ k) × (bit x ≡ j))
        cases e (inl m) =
            inl (subst (λ (i : ℕ). Has (word_of key bit xs i) j) e.own_key
            (subst (Has (word_of key bit xs (key e.entry))) e.own_bit (entry_has xs e.entry m)))
        cases e (inr m) =
            let same : e.entry ≡ x = Memᴰ-eq_of_singleton m in
            inr (ap key (sym same) ∙ e.own_key, ap bit (sym same) ∙ e.own_bit)

        go : Entry more k j → Has (word_of key bit xs k) j ⊎ ((key x ≡ k) × (bit x ≡ j))
        go e = cases e (Memᴰ-append_cases xs e.listed)

    pub word_same : word_of key bit xs (key x) ∪ atom (bit x) ≡ word_of key bit more (key x)
    word_same = ext _ _ (λ j h. into j (union_cases (word_of key bit xs (key x)) (atom (bit x)) h)) (λ j h. from j (old_or_new (key x) j h))
      where
        into : (j : ℕ) → Has (word_of key bit xs (key x)) j ⊎ Has (atom (bit x)) j → Has (word_of key bit more (key x)) j
        into j (inl h) = kept (key x) j h
        into j (inr h) = subst (Has (word_of key bit more (key x))) (atom_only (bit x) h) added

        from : (j : ℕ) → Has (word_of key bit xs (key x)) j ⊎ ((key x ≡ key x) × (bit x ≡ j)) → Has (word_of key bit xs (key x) ∪ atom (bit x)) j
        from j (inl h) = has_left (word_of key bit xs (key x)) (atom (bit x)) h
        from j (inr q) = has_right (word_of key bit xs (key x)) (atom (bit x)) (subst (Has (atom (bit x))) q.1 (has_atom (bit x)))

    pub word_other : (k : ℕ) → ¬ (k ≡ key x) → word_of key bit xs k ≡ word_of key bit more k
    word_other k n = ext _ _ (kept k) (λ j h. from j (old_or_new k j h))
      where
        from : (j : ℕ) → Has (word_of key bit xs k) j ⊎ ((key x ≡ k) × (bit x ≡ j)) → Has (word_of key bit xs k) j
        from j (inl h) = h
        from j (inr q) = absurd (n (sym q.0))
