-- Rising lists are fixed by their members; `members p n` is the rising list of the numbers below n of which p holds.
use Rattle.atoms.proofs.Prelude.{◌≡◌, refl, sym, ap, ap₂, ◌∙◌, subst, Bool, true, false, List, [], ◌∷◌, ◌++◌, List-as-Memᴰ, Memᴰ-head}
use Rattle.atoms.proofs.Prelude.{Memᴰ-tail, Memᴰ-not-nil, Memᴰ-cases_cons, Memᴰ-append_cases, Memᴰ-eq_of_singleton}
use Rattle.atoms.proofs.Prelude.{Memᴰ-append_left, Memᴰ-append_right, ◌⊎◌, inl, inr, ℕ, zero, suc, ◌<◌, length, get_or, arith, ℕ_discrete, Above}
use Rattle.atoms.proofs.Prelude.{above_nil, above_cons, Rising, rising_nil, rising_cons, members}
use Rattle.atoms.proofs.Tests.{not_both}
use Rattle.atoms.proofs.Lists.{index_of}

pub above_at : {b : ℕ} {xs : List ℕ} → Above b xs → (y : ℕ) → List-as-Memᴰ y xs → b < y
above_at above_nil y m = absurd (Memᴰ-not-nil m)
above_at {b} (above_cons {x = x} {xs = xs} l a) y m = go (Memᴰ-cases_cons m) (above_at a y)
  where
    go : (y ≡ x) ⊎ List-as-Memᴰ y xs → (List-as-Memᴰ y xs → b < y) → b < y
    go (inl e) rest = omega arith
    go (inr k) rest = rest k

pub above_intro : (b : ℕ) (xs : List ℕ) → ((y : ℕ) → List-as-Memᴰ y xs → b < y) → Above b xs
above_intro b [] f = above_nil
above_intro b (x ∷ xs) f =
    above_cons (f x (Memᴰ-head refl)) (above_intro b xs (λ y m. f y (Memᴰ-tail m)))

-- a list rises if its words do, by index
pub rising_by : (xs : List ℕ) → ((i j : ℕ) → i < j → j < length xs → get_or xs i 0 < get_or xs j 0) → Rising xs
rising_by [] f = rising_nil
rising_by (x ∷ xs) f = rising_cons (above_intro x xs above) (rising_by xs (λ i j l k. f (suc i) (suc j) (omega arith) (omega arith)))
  where
    above : (y : ℕ) → List-as-Memᴰ y xs → x < y
    above y m =
        let p = index_of xs y m in
        subst (λ (z : ℕ). x < z) p.2 (f 0 (suc p.0) (omega arith) (omega (arith, p.1)))

head_eq : (x y : ℕ) (xs ys : List ℕ) → Above x xs → Above y ys → List-as-Memᴰ x (y ∷ ys) → List-as-Memᴰ y (x ∷ xs) → x ≡ y
head_eq x y xs ys a b m k = go (Memᴰ-cases_cons m) (Memᴰ-cases_cons k)
  where
    go : (x ≡ y) ⊎ List-as-Memᴰ x ys → (y ≡ x) ⊎ List-as-Memᴰ y xs → x ≡ y
    go (inl e) q = e
    go (inr p) (inl e) = sym e
    go (inr p) (inr q) = absurd (omega (arith, above_at b x p, above_at a y q))

behind : (x y z : ℕ) (xs ys : List ℕ) → x ≡ y → Above x xs → List-as-Memᴰ z xs → List-as-Memᴰ z (y ∷ ys) → List-as-Memᴰ z ys
behind x y z xs ys e a m k = go (Memᴰ-cases_cons k)
  where
    go : (z ≡ y) ⊎ List-as-Memᴰ z ys → List-as-Memᴰ z ys
    go (inl f) = absurd (omega (arith, above_at a z m))
    go (inr q) = q

-- two rising lists with the same members are equal
pub rising_ext : (xs ys : List ℕ) → Rising xs → Rising ys → ((z : ℕ) → List-as-Memᴰ z xs → List-as-Memᴰ z ys)
    → ((z : ℕ) → List-as-Memᴰ z ys → List-as-Memᴰ z xs) → xs ≡ ys
rising_ext [] [] r s f g = refl
rising_ext [] (y ∷ ys) r s f g = absurd (Memᴰ-not-nil (g y (Memᴰ-head refl)))
rising_ext (x ∷ xs) [] r s f g = absurd (Memᴰ-not-nil (f x (Memᴰ-head refl)))
rising_ext (x ∷ xs) (y ∷ ys) (rising_cons a r) (rising_cons b s) f g =
    let e : x ≡ y = head_eq x y xs ys a b (f x (Memᴰ-head refl)) (g y (Memᴰ-head refl)) in
    ap₂ ◌∷◌ e
    (rising_ext xs ys r s (λ z m. behind x y z xs ys e a m (f z (Memᴰ-tail m)))
    (λ z m. behind y x z ys xs (sym e) b m (g z (Memᴰ-tail m))))

-- ---- the rising list of the numbers below n of which p holds

pub members_at : (p : ℕ → Bool) (n x : ℕ) → List-as-Memᴰ x (members p n) → (x < n) × (p x ≡ true)
unfolding members
members_at p zero x m = absurd (Memᴰ-not-nil m)
members_at p (suc n) x m = go (p n) refl m (members_at p n x)
  where
    front : (List-as-Memᴰ x (members p n) → (x < n) × (p x ≡ true)) → List-as-Memᴰ x (members p n) → (x < suc n) × (p x ≡ true)
    front rest k = let r = rest k in (omega (arith, r.0), r.1)

    last : p n ≡ true → (List-as-Memᴰ x (members p n) → (x < n) × (p x ≡ true))
        → List-as-Memᴰ x (members p n) ⊎ List-as-Memᴰ x (n ∷ []) → (x < suc n) × (p x ≡ true)
    last q rest (inl k) = front rest k
    last q rest (inr k) = let e : x ≡ n = Memᴰ-eq_of_singleton k in (omega arith, ap p e ∙ q)

    none : (List-as-Memᴰ x (members p n) → (x < n) × (p x ≡ true)) → List-as-Memᴰ x (members p n) ⊎ List-as-Memᴰ x []
        → (x < suc n) × (p x ≡ true)
    none rest (inl k) = front rest k
    none rest (inr k) = absurd (Memᴰ-not-nil k)

    go : (b : Bool) → p n ≡ b → List-as-Memᴰ x (members p n ++ elim b [ true ↦ n ∷ [] | false ↦ [] ])
        → (List-as-Memᴰ x (members p n) → (x < n) × (p x ≡ true)) → (x < suc n) × (p x ≡ true)
    go true q k rest = last q rest (Memᴰ-append_cases (members p n) k)
    go false q k rest = none rest (Memᴰ-append_cases (members p n) k)

pub members_has : (p : ℕ → Bool) (n x : ℕ) → x < n → p x ≡ true → List-as-Memᴰ x (members p n)
unfolding members
members_has p zero x l e = absurd (omega arith)
members_has p (suc n) x l e = go (p n) refl (ℕ_discrete x n) (λ k. members_has p n x k e)
  where
    go : (b : Bool) → p n ≡ b → Dec (x ≡ n) → (x < n → List-as-Memᴰ x (members p n))
        → List-as-Memᴰ x (members p n ++ elim b [ true ↦ n ∷ [] | false ↦ [] ])
    go true q (yes j) rest = Memᴰ-append_right (members p n) (Memᴰ-head j)
    go true q (no j) rest = Memᴰ-append_left (n ∷ []) (rest (omega arith))
    go false q (yes j) rest = absurd (not_both (ap p (sym j) ∙ e) q)
    go false q (no j) rest = Memᴰ-append_left [] (rest (omega arith))

-- a rising list stays so with a larger number behind it
rising_snoc : (xs : List ℕ) (n : ℕ) → Rising xs → ((x : ℕ) → List-as-Memᴰ x xs → x < n) → Rising (xs ++ (n ∷ []))
rising_snoc [] n r f = rising_cons above_nil rising_nil
rising_snoc (x ∷ xs) n (rising_cons a r) f =
    rising_cons (above_intro x (xs ++ (n ∷ [])) (λ y m. go y (Memᴰ-append_cases xs m)))
    (rising_snoc xs n r (λ y m. f y (Memᴰ-tail m)))
  where
    go : (y : ℕ) → List-as-Memᴰ y xs ⊎ List-as-Memᴰ y (n ∷ []) → x < y
    go y (inl m) = above_at a y m
    go y (inr m) = subst (λ (z : ℕ). x < z) (sym (Memᴰ-eq_of_singleton m)) (f x (Memᴰ-head refl))

rising_nothing : (xs : List ℕ) → Rising xs → Rising (xs ++ [])
rising_nothing [] r = r
rising_nothing (x ∷ xs) (rising_cons a r) =
    rising_cons (above_intro x (xs ++ []) (λ y m. go y (Memᴰ-append_cases xs m))) (rising_nothing xs r)
  where
    go : (y : ℕ) → List-as-Memᴰ y xs ⊎ List-as-Memᴰ y [] → x < y
    go y (inl m) = above_at a y m
    go y (inr m) = absurd (Memᴰ-not-nil m)

pub members_rising : (p : ℕ → Bool) (n : ℕ) → Rising (members p n)
unfolding members
members_rising p zero = rising_nil
members_rising p (suc n) = go (p n) (members_rising p n)
  where
    go : (b : Bool) → Rising (members p n) → Rising (members p n ++ elim b [ true ↦ n ∷ [] | false ↦ [] ])
    go true r = rising_snoc (members p n) n r (λ x m. (members_at p n x m).0)
    go false r = rising_nothing (members p n) r

-- a rising list that holds just the numbers below n of which p holds is `members p n`
pub members_only : (p : ℕ → Bool) (n : ℕ) (xs : List ℕ) → Rising xs
    → ((x : ℕ) → List-as-Memᴰ x xs → (x < n) × (p x ≡ true)) → ((x : ℕ) → x < n → p x ≡ true → List-as-Memᴰ x xs)
    → xs ≡ members p n
members_only p n xs r f g =
    rising_ext xs (members p n) r (members_rising p n) (λ x m. let h = f x m in members_has p n x h.0 h.1)
    (λ x m. let h = members_at p n x m in g x h.0 h.1)

-- tests that agree below n have the same members
pub members_same : (p q : ℕ → Bool) (n : ℕ) → ((x : ℕ) → x < n → p x ≡ q x) → members p n ≡ members q n
members_same p q n f =
    members_only q n (members p n) (members_rising p n)
    (λ x m. let h = members_at p n x m in (h.0, sym (f x h.0) ∙ h.1)) (λ x l e. members_has p n x l (f x l ∙ e))
