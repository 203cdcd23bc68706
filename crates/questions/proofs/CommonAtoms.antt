-- The atoms up in all positions and in some, position after position.
use Rattle.questions.proofs.Prelude.{◌≡◌, refl, sym, ap, ◌∙◌, subst, ◌⊎◌, inl, inr, List, [], ◌∷◌, ◌++◌, ℕ, ◌+◌, ◌≤◌, ◌<◌, arith, add-one, dec_lt}
use Rattle.questions.proofs.Prelude.{length, get_or, take, length-append, get_or-append, take-suc, take_all, get_or-append_seam, ATOMS, Has, below, ◌∩◌}
use Rattle.questions.proofs.Prelude.{◌∪◌, has_none}
use Rattle.atoms.specs.Collected.{Collects}
use Rattle.atoms.proofs.Collected.{collects_has, collects_below, collects_cut, collects_union, collects_iff}
use Rattle.questions.specs.Common.{InAll, InSome, CommonAtoms}

-- ---- one position more

long_snoc : (xs : List ℕ) (x : ℕ) → length (xs ++ (x ∷ [])) ≡ length xs + 1
long_snoc xs x = length-append xs (x ∷ [])

module _ (xs : List ℕ) (x atom : ℕ) where
  at_front : (at : ℕ) → at < length xs → Has (get_or (xs ++ (x ∷ [])) at 0) atom → Has (get_or xs at 0) atom
  at_front at l h = subst (λ (w : ℕ). Has w atom) (get_or-append xs (x ∷ []) 0 at l) h

  to_front : (at : ℕ) → at < length xs → Has (get_or xs at 0) atom → Has (get_or (xs ++ (x ∷ [])) at 0) atom
  to_front at l h = subst (λ (w : ℕ). Has w atom) (sym (get_or-append xs (x ∷ []) 0 at l)) h

  at_last : (at : ℕ) → at ≡ length xs → get_or (xs ++ (x ∷ [])) at 0 ≡ x
  at_last at e = ap (λ (k : ℕ). get_or (xs ++ (x ∷ [])) k 0) e ∙ get_or-append_seam xs x [] 0

  in_all_of : InAll (xs ++ (x ∷ [])) atom → InAll xs atom × Has x atom
  in_all_of h = (
    record { below = h.below; in_each = λ at l. at_front at l (h.in_each at (omega (arith, long_snoc xs x))) },
    subst (λ (w : ℕ). Has w atom) (at_last (length xs) refl) (h.in_each (length xs) (omega (arith, long_snoc xs x))),
  )

  in_all_more : InAll xs atom × Has x atom → InAll (xs ++ (x ∷ [])) atom
  in_all_more h = record { below = h.0.below; in_each = λ at l. go at l (dec_lt at (length xs)) }
    where
      go : (at : ℕ) → at < length (xs ++ (x ∷ [])) → Dec (at < length xs) → Has (get_or (xs ++ (x ∷ [])) at 0) atom
      go at l (yes k) = to_front at k (h.0.in_each at k)
      go at l (no k) = subst (λ (w : ℕ). Has w atom) (sym (at_last at (omega (arith, long_snoc xs x)))) h.1

  in_some_of : InSome (xs ++ (x ∷ [])) atom → InSome xs atom ⊎ Has x atom
  in_some_of h = go (dec_lt h.at (length xs))
    where
      go : Dec (h.at < length xs) → InSome xs atom ⊎ Has x atom
      go (yes k) = inl (record { at = h.at; within = k; has_it = at_front h.at k h.has_it })
      go (no k) = inr (subst (λ (w : ℕ). Has w atom) (at_last h.at (omega (arith, long_snoc xs x, h.within))) h.has_it)

  in_some_more : InSome xs atom ⊎ Has x atom → InSome (xs ++ (x ∷ [])) atom
  in_some_more (inl h) =
      record { at = h.at; within = omega (arith, long_snoc xs x, h.within); has_it = to_front h.at h.within h.has_it }
  in_some_more (inr h) =
      record {
        at = length xs;
        within = omega (arith, long_snoc xs x);
        has_it = subst (λ (w : ℕ). Has w atom) (sym (at_last (length xs) refl)) h;
      }

-- ---- the loop

-- the words for the first `at` positions
pub record CommonSoFar (list : List ℕ) (all some at : ℕ) : Type 0 where
  pub reached : at ≤ length list
  pub all_is : Collects (InAll (take at list)) all
  pub some_is : Collects (InSome (take at list)) some

-- "for an empty list these are all 64 and none"
pub common_start : (list : List ℕ) {all : ℕ} → all ≡ below ATOMS → CommonSoFar list all 0 0
common_start list {all} e =
    record {
      reached = omega arith;
      all_is =
          subst (Collects (InAll [])) (sym e)
          (collects_iff (λ i l. record { below = l; in_each = λ at k. absurd (omega arith) }) (λ i h. h.below) (collects_below ATOMS));
      some_is = record { each = λ i h. absurd (has_none h); all = λ i h. absurd (omega (arith, h.within)) };
    }

pub common_more : {list : List ℕ} {all some at all' some' : ℕ} → CommonSoFar list all some at → at < length list
    → all' ≡ all ∩ get_or list at 0 → some' ≡ some ∪ get_or list at 0 → CommonSoFar list all' some' (at + 1)
common_more {list} {all} {some} {at} c l ea es =
    record {
      reached = omega arith;
      all_is =
          subst (Collects (InAll (take (at + 1) list))) (sym ea)
          (subst (λ (xs : List ℕ). Collects (InAll xs) (all ∩ get_or list at 0)) (sym snoc)
          (collects_iff (λ i h. in_all_more front x i h) (λ i h. in_all_of front x i h) (collects_cut c.all_is (collects_has x))));
      some_is =
          subst (Collects (InSome (take (at + 1) list))) (sym es)
          (subst (λ (xs : List ℕ). Collects (InSome xs) (some ∪ get_or list at 0)) (sym snoc)
          (collects_iff (λ i h. in_some_more front x i h) (λ i h. in_some_of front x i h) (collects_union c.some_is (collects_has x))));
    }
  where
    front : List ℕ
    front = take at list

    x : ℕ
    x = get_or list at 0

    snoc : take (at + 1) list ≡ take at list ++ (get_or list at 0 ∷ [])
    snoc = ap (λ (k : ℕ). take k list) (add-one at) ∙ take-suc list at 0 l

pub common_end : {list : List ℕ} {all some at : ℕ} → CommonSoFar list all some at → length list ≤ at
    → CommonAtoms list (record { all = all; some = some })
common_end {list} {all} {some} {at} c l =
    let e = take_all at list l in
    record {
      all_is = subst (λ (xs : List ℕ). Collects (InAll xs) all) e c.all_is;
      some_is = subst (λ (xs : List ℕ). Collects (InSome xs) some) e c.some_is;
    }
