-- Lists of elements: one more at the end, what each has, and lists of numbered elements.
use Rattle.reading.proofs.Prelude.{◌≡◌, refl, ap, sym, ◌∙◌, subst, List, [], ◌∷◌, ◌++◌, append_assoc, append-nil, flat_map, List-as-Memᴰ, Memᴰ-head}
use Rattle.reading.proofs.Prelude.{Memᴰ-tail, Memᴰ-not-nil, Memᴰ-cases_cons, Memᴰ-append_cases, Memᴰ-eq_of_singleton, ◌⊎◌}
use Rattle.reading.proofs.Prelude.{inl, inr, ℕ, zero, suc, ◌+◌, ◌≤◌, ◌<◌, arith, length, length-append, All, AllDistinct}

pub length-snoc : {A : Type 0} (xs : List A) (x : A) → length (xs ++ (x ∷ [])) ≡ length xs + 1
length-snoc xs x = length-append xs (x ∷ [])

pub all_snoc : {A : Type 0} (P : A → Type 0) (xs : List A) (x : A) → All P xs → P x → All P (xs ++ (x ∷ []))
all_snoc P [] x a p = (p, tt)
all_snoc P (y ∷ xs) x a p = (a.0, all_snoc P xs x a.1 p)

pub all_member : {A : Type 0} (P : A → Type 0) (xs : List A) (e : A) → All P xs → List-as-Memᴰ e xs → P e
all_member P [] e a m = absurd (Memᴰ-not-nil m)
all_member P (x ∷ xs) e a m = go (Memᴰ-cases_cons m) (all_member P xs e a.1)
  where
    go : (e ≡ x) ⊎ List-as-Memᴰ e xs → (List-as-Memᴰ e xs → P e) → P e
    go (inl q) rec = subst P (sym q) a.0
    go (inr k) rec = rec k

pub distinct_snoc : {A : Type 0} (xs : List A) (x : A) → AllDistinct xs → ¬ List-as-Memᴰ x xs → AllDistinct (xs ++ (x ∷ []))
distinct_snoc [] x d n = (λ m. Memᴰ-not-nil m, tt)
distinct_snoc (y ∷ xs) x d n = (λ m. go (Memᴰ-append_cases xs m), distinct_snoc xs x d.1 (λ m. n (Memᴰ-tail m)))
  where
    go : List-as-Memᴰ y xs ⊎ List-as-Memᴰ y (x ∷ []) → ⊥
    go (inl old) = d.0 old
    go (inr m) = n (Memᴰ-head (sym (Memᴰ-eq_of_singleton m)))

pub flat_snoc : {A : Type 0} (f : A → List ℕ) (xs : List A) (x : A) → flat_map f (xs ++ (x ∷ [])) ≡ flat_map f xs ++ f x
unfolding flat_map
flat_snoc f [] x = append-nil (f x)
flat_snoc f (y ∷ xs) x = ap (λ (l : List ℕ). f y ++ l) (flat_snoc f xs x) ∙ sym (append_assoc (f y) (flat_map f xs) (f x))

pub empty : {A : Type 0} (l : List A) → length l ≤ 0 → l ≡ []
empty [] h = refl
empty (x ∷ l) h = absurd (omega arith)

-- ---- the elements with numbers below n

module _ {A : Type 0} (f : ℕ → A) where
  pub list_below : ℕ → List A
  list_below zero = []
  list_below (suc n) = f n ∷ list_below n

  pub below_long : (n : ℕ) → length (list_below n) ≡ n
  unfolding list_below
  below_long zero = refl
  below_long (suc n) = ap suc (below_long n)

  pub below_all : (P : A → Type 0) (n : ℕ) → ((i : ℕ) → i < n → P (f i)) → All P (list_below n)
  unfolding list_below
  below_all P zero h = tt
  below_all P (suc n) h = (h n (omega arith), below_all P n (λ i l. h i (omega arith)))

  module _ (own : (i j : ℕ) → f i ≡ f j → i ≡ j) where
    not-below : (n i : ℕ) → n ≤ i → ¬ List-as-Memᴰ (f i) (list_below n)
    unfolding list_below
    not-below zero i l m = Memᴰ-not-nil m
    not-below (suc n) i l m = go (Memᴰ-cases_cons m) (not-below n i (omega arith))
      where
        go : (f i ≡ f n) ⊎ List-as-Memᴰ (f i) (list_below n) → ¬ List-as-Memᴰ (f i) (list_below n) → ⊥
        go (inl e) rec = omega (arith, own i n e)
        go (inr k) rec = rec k

    pub below_distinct : (n : ℕ) → AllDistinct (list_below n)
    unfolding list_below
    below_distinct zero = tt
    below_distinct (suc n) = (not-below n n (omega arith), below_distinct n)
