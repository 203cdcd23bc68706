-- A value put into its place in a rising list: the list stays rising and has one member more.
use Rattle.atoms.proofs.Prelude.{◌≡◌, sym, ap, ◌∙◌, subst, Bool, true, false, List, [], ◌∷◌, List-as-Memᴰ, Memᴰ-head, Memᴰ-tail}
use Rattle.atoms.proofs.Prelude.{Memᴰ-not-nil, Memᴰ-cases_cons, Memᴰ-eq_of_singleton, ◌⊎◌, inl, inr, ℕ, ◌≤◌, ◌<◌, arith, ℕ_discrete}
use Rattle.atoms.proofs.Prelude.{dec_lt, eqb, length, lt-ltb, le-ltb, eq-eqb, ne_eqb, above_nil, Rising, rising_nil, rising_cons, insert_into}
use Rattle.atoms.proofs.Rising.{above_at, above_intro}

-- ---- the three cases

pub insert_below : (v x : ℕ) (xs : List ℕ) → v < x → insert_into v (x ∷ xs) ≡ v ∷ insert_into x xs
unfolding insert_into
insert_below v x xs l =
    rw (insert_into, lt-ltb v x l)

not-below : (v x : ℕ) (xs : List ℕ) → x ≤ v → insert_into v (x ∷ xs) ≡ elim (eqb v x) [ true ↦ x ∷ xs | false ↦ x ∷ insert_into v xs ]
unfolding insert_into
not-below v x xs l =
    rw (insert_into, le-ltb v x l)

pub insert_same : (v x : ℕ) (xs : List ℕ) → v ≡ x → insert_into v (x ∷ xs) ≡ x ∷ xs
insert_same v x xs e =
    not-below v x xs (omega arith)
    ∙ ap (λ (b : Bool). elim b [ true ↦ x ∷ xs | false ↦ x ∷ insert_into v xs ]) (eq-eqb v x e)

pub insert_above : (v x : ℕ) (xs : List ℕ) → ¬ (v ≡ x) → x ≤ v → insert_into v (x ∷ xs) ≡ x ∷ insert_into v xs
insert_above v x xs n l =
    not-below v x xs l ∙ ap (λ (b : Bool). elim b [ true ↦ x ∷ xs | false ↦ x ∷ insert_into v xs ]) (ne_eqb v x n)

-- the three ways in which a value meets a member
data Meets (v x : ℕ) : Type 0 where
  below : v < x → Meets v x
  same : v ≡ x → Meets v x
  above : ¬ (v ≡ x) → x ≤ v → Meets v x

meets : (v x : ℕ) → Meets v x
meets v x = go (dec_lt v x) (ℕ_discrete v x)
  where
    go : Dec (v < x) → Dec (v ≡ x) → Meets v x
    go (yes l) d = below l
    go (no n) (yes e) = same e
    go (no n) (no e) = above e (omega arith)

-- ---- members

pub insert_at : (v : ℕ) (xs : List ℕ) (y : ℕ) → List-as-Memᴰ y (insert_into v xs) → (y ≡ v) ⊎ List-as-Memᴰ y xs
unfolding insert_into
insert_at v [] y m = inl (Memᴰ-eq_of_singleton m)
insert_at v (x ∷ xs) y m = go (meets v x) (insert_at x xs y) (insert_at v xs y)
  where
    behind : List-as-Memᴰ y (x ∷ xs) → (y ≡ v) ⊎ List-as-Memᴰ y (x ∷ xs)
    behind k = inr k

    carried : (y ≡ x) ⊎ List-as-Memᴰ y xs → (y ≡ v) ⊎ List-as-Memᴰ y (x ∷ xs)
    carried (inl e) = inr (Memᴰ-head e)
    carried (inr k) = inr (Memᴰ-tail k)

    stayed : (y ≡ v) ⊎ List-as-Memᴰ y xs → (y ≡ v) ⊎ List-as-Memᴰ y (x ∷ xs)
    stayed (inl e) = inl e
    stayed (inr k) = inr (Memᴰ-tail k)

    first_below : (y ≡ v) ⊎ List-as-Memᴰ y (insert_into x xs) → (List-as-Memᴰ y (insert_into x xs) → (y ≡ x) ⊎ List-as-Memᴰ y xs)
        → (y ≡ v) ⊎ List-as-Memᴰ y (x ∷ xs)
    first_below (inl e) r = inl e
    first_below (inr k) r = carried (r k)

    first_above : (y ≡ x) ⊎ List-as-Memᴰ y (insert_into v xs) → (List-as-Memᴰ y (insert_into v xs) → (y ≡ v) ⊎ List-as-Memᴰ y xs)
        → (y ≡ v) ⊎ List-as-Memᴰ y (x ∷ xs)
    first_above (inl e) r = inr (Memᴰ-head e)
    first_above (inr k) r = stayed (r k)

    go : Meets v x → (List-as-Memᴰ y (insert_into x xs) → (y ≡ x) ⊎ List-as-Memᴰ y xs)
        → (List-as-Memᴰ y (insert_into v xs) → (y ≡ v) ⊎ List-as-Memᴰ y xs) → (y ≡ v) ⊎ List-as-Memᴰ y (x ∷ xs)
    go (below l) r q =
        first_below (Memᴰ-cases_cons (subst (List-as-Memᴰ y) (insert_below v x xs l) m)) r
    go (same e) r q = behind (subst (List-as-Memᴰ y) (insert_same v x xs e) m)
    go (above n l) r q =
        first_above (Memᴰ-cases_cons (subst (List-as-Memᴰ y) (insert_above v x xs n l) m)) q

pub insert_has : (v : ℕ) (xs : List ℕ) (y : ℕ) → (y ≡ v) ⊎ List-as-Memᴰ y xs → List-as-Memᴰ y (insert_into v xs)
unfolding insert_into
insert_has v [] y (inl e) = Memᴰ-head e
insert_has v [] y (inr m) = absurd (Memᴰ-not-nil m)
insert_has v (x ∷ xs) y m = go (meets v x) (insert_has x xs y) (insert_has v xs y) m
  where
    split : List-as-Memᴰ y (x ∷ xs) → (y ≡ x) ⊎ List-as-Memᴰ y xs
    split k = Memᴰ-cases_cons k

    lower : ((y ≡ x) ⊎ List-as-Memᴰ y xs → List-as-Memᴰ y (insert_into x xs)) → (y ≡ v) ⊎ List-as-Memᴰ y (x ∷ xs)
        → List-as-Memᴰ y (v ∷ insert_into x xs)
    lower r (inl e) = Memᴰ-head e
    lower r (inr k) = Memᴰ-tail (r (split k))

    equal : v ≡ x → (y ≡ v) ⊎ List-as-Memᴰ y (x ∷ xs) → List-as-Memᴰ y (x ∷ xs)
    equal e (inl f) = Memᴰ-head (f ∙ e)
    equal e (inr k) = k

    higher' : ((y ≡ v) ⊎ List-as-Memᴰ y xs → List-as-Memᴰ y (insert_into v xs)) → (y ≡ x) ⊎ List-as-Memᴰ y xs
        → List-as-Memᴰ y (x ∷ insert_into v xs)
    higher' q (inl e) = Memᴰ-head e
    higher' q (inr k) = Memᴰ-tail (q (inr k))

    higher : ((y ≡ v) ⊎ List-as-Memᴰ y xs → List-as-Memᴰ y (insert_into v xs)) → (y ≡ v) ⊎ List-as-Memᴰ y (x ∷ xs)
        → List-as-Memᴰ y (x ∷ insert_into v xs)
    higher q (inl e) = Memᴰ-tail (q (inl e))
    higher q (inr k) = higher' q (split k)

    go : Meets v x → ((y ≡ x) ⊎ List-as-Memᴰ y xs → List-as-Memᴰ y (insert_into x xs))
        → ((y ≡ v) ⊎ List-as-Memᴰ y xs → List-as-Memᴰ y (insert_into v xs)) → (y ≡ v) ⊎ List-as-Memᴰ y (x ∷ xs)
        → List-as-Memᴰ y (insert_into v (x ∷ xs))
    go (below l) r q k = subst (List-as-Memᴰ y) (sym (insert_below v x xs l)) (lower r k)
    go (same e) r q k = subst (List-as-Memᴰ y) (sym (insert_same v x xs e)) (equal e k)
    go (above n l) r q k = subst (List-as-Memᴰ y) (sym (insert_above v x xs n l)) (higher q k)

-- ---- order

pub insert_rising : (v : ℕ) (xs : List ℕ) → Rising xs → Rising (insert_into v xs)
unfolding insert_into
insert_rising v [] r = rising_cons above_nil rising_nil
insert_rising v (x ∷ xs) (rising_cons a r) = go (meets v x) (insert_rising x xs r) (insert_rising v xs r)
  where
    over_v : v < x → (y : ℕ) → (y ≡ x) ⊎ List-as-Memᴰ y xs → v < y
    over_v l y (inl e) = omega arith
    over_v l y (inr m) = omega (arith, above_at a y m)

    over_x : ¬ (v ≡ x) → x ≤ v → (y : ℕ) → (y ≡ v) ⊎ List-as-Memᴰ y xs → x < y
    over_x n l y (inl e) = omega arith
    over_x n l y (inr m) = above_at a y m

    go : Meets v x → Rising (insert_into x xs) → Rising (insert_into v xs) → Rising (insert_into v (x ∷ xs))
    go (below l) p q =
        subst Rising (sym (insert_below v x xs l))
        (rising_cons (above_intro v (insert_into x xs) (λ y m. over_v l y (insert_at x xs y m))) p)
    go (same e) p q = subst Rising (sym (insert_same v x xs e)) (rising_cons a r)
    go (above n l) p q =
        subst Rising (sym (insert_above v x xs n l))
        (rising_cons (above_intro x (insert_into v xs) (λ y m. over_x n l y (insert_at v xs y m))) q)

pub insert_longer : (v : ℕ) (xs : List ℕ) → length xs ≤ length (insert_into v xs)
insert_longer v [] = omega arith
insert_longer v (x ∷ xs) = go (meets v x) (insert_longer x xs) (insert_longer v xs)
  where
    go : Meets v x → length xs ≤ length (insert_into x xs) → length xs ≤ length (insert_into v xs)
        → length (x ∷ xs) ≤ length (insert_into v (x ∷ xs))
    go (below l) p q = omega (arith, ap length (insert_below v x xs l))
    go (same e) p q = omega (arith, ap length (insert_same v x xs e))
    go (above n l) p q = omega (arith, ap length (insert_above v x xs n l))
