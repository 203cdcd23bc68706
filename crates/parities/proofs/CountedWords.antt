-- Counts of words: of words apart, of an atom, of a word's atoms below a bound.
use Rattle.parities.proofs.Prelude.{◌≡◌, refl, ap, ◌∙◌, subst, ◌⊎◌, inl, inr, ℕ, zero, suc, ◌+◌, ◌/◌, ◌%◌, ◌^◌, ◌<◌, arith, pow-suc, ℕ_discrete, ones}
use Rattle.parities.proofs.Prelude.{ones_step, bin_ind, ATOMS, digit, Has, Apart, ◌∩◌, ◌∪◌, ◌∖◌, atom, below, digit_lt, digit_low, digit_next}
use Rattle.parities.proofs.Prelude.{digit_zero, and_at, or_at, sub_at, no_digit, has_dec, has_cut, cut_left, cut_right, has_left, has_right}
use Rattle.parities.proofs.Prelude.{union_cases, has_atom, atom_only, has_none, has_below, below_lt, ext, has_lt}

-- ---- two words

-- digits that are sums have counts that are sums
count_sum : (a b c : ℕ) → ((i : ℕ) → digit a i ≡ digit b i + digit c i) → ones a ≡ ones b + ones c
unfolding ones
count_sum = bin_ind (λ (n : ℕ). (b c : ℕ) → ((i : ℕ) → digit n i ≡ digit b i + digit c i) → ones n ≡ ones b + ones c) none step
  where
    none : (b c : ℕ) → ((i : ℕ) → digit 0 i ≡ digit b i + digit c i) → ones 0 ≡ ones b + ones c
    none b c f =
        let p : b ≡ 0 = no_digit b (λ i. omega (arith, f i, digit_zero i)) in
        let q : c ≡ 0 = no_digit c (λ i. omega (arith, f i, digit_zero i)) in
        rw (p, q) refl

    step : (n : ℕ) → ((b c : ℕ) → ((i : ℕ) → digit (n / 2) i ≡ digit b i + digit c i) → ones (n / 2) ≡ ones b + ones c)
        → (b c : ℕ) → ((i : ℕ) → digit n i ≡ digit b i + digit c i) → ones n ≡ ones b + ones c
    step n ih b c f =
        omega (
          arith,
          ones_step n,
          ones_step b,
          ones_step c,
          f 0,
          digit_low n,
          digit_low b,
          digit_low c,
          ih (b / 2) (c / 2) (λ i. omega (arith, f (suc i), digit_next n i, digit_next b i, digit_next c i)),
        )

-- a word is what it has of another and what it has not
pub count_parts : (a b : ℕ) → ones a ≡ ones (a ∩ b) + ones (a ∖ b)
unfolding ◌∩◌ ◌∖◌
count_parts a b = count_sum a _ _ (λ i. omega (arith, and_at a b i, sub_at a b i))

pub digit_none : {w i : ℕ} → ¬ Has w i → digit w i ≡ 0
digit_none {w} {i} h =
    let l : digit w i < 2 = digit_lt w i in
    let n : ¬ (digit w i ≡ 1) = λ e. h (record { bit = e }) in
    omega arith

pub count_apart : (a b : ℕ) → Apart a b → ones (a ∪ b) ≡ ones a + ones b
unfolding ◌∪◌
count_apart a b f = count_sum (a ∪ b) a b (λ i. go i (has_dec a i))
  where
    go : (i : ℕ) → Dec (Has a i) → digit (a ∪ b) i ≡ digit a i + digit b i
    go i (yes h) = omega (arith, or_at a b i, h.bit, digit_none (f.none i h))
    go i (no h) = omega (arith, or_at a b i, digit_none h)

pub count_none : ones 0 ≡ 0
unfolding ones
count_none = refl

pub cut_swap : (a b : ℕ) → a ∩ b ≡ b ∩ a
cut_swap a b = ext (a ∩ b) (b ∩ a) (λ i h. has_cut b a (cut_right a b h) (cut_left a b h)) (λ i h. has_cut a b (cut_right b a h) (cut_left b a h))

-- ---- atoms below a bound

pub count_atom : (i : ℕ) → ones (atom i) ≡ 1
unfolding atom ones
count_atom zero = refl
count_atom (suc i) = omega (arith, ones_step (2 ^ suc i), ap ones (half i), even i, count_atom i)
  where
    half : (i : ℕ) → 2 ^ suc i / 2 ≡ 2 ^ i
    half i = omega (arith, pow-suc 2 i)

    even : (i : ℕ) → 2 ^ suc i % 2 ≡ 0
    even i = omega (arith, pow-suc 2 i)

-- the atoms below one more
pub below_more : (w n : ℕ) → Has w n → ones (w ∩ below (suc n)) ≡ ones (w ∩ below n) + 1
below_more w n h = ap ones same ∙ count_apart (w ∩ below n) (atom n) parts ∙ ap (λ (x : ℕ). ones (w ∩ below n) + x) (count_atom n)
  where
    parts : Apart (w ∩ below n) (atom n)
    parts = record { none = λ i p q. let l = below_lt n (cut_right w (below n) p) in let e = atom_only n q in omega arith }

    into : (i : ℕ) → Has w i → i < suc n → Dec (n ≡ i) → Has ((w ∩ below n) ∪ atom n) i
    into i p l (yes e) = has_right (w ∩ below n) (atom n) (subst (λ (x : ℕ). Has (atom n) x) e (has_atom n))
    into i p l (no e) = has_left (w ∩ below n) (atom n) (has_cut w (below n) p (has_below n i (omega arith)))

    from : (i : ℕ) → Has (w ∩ below n) i ⊎ Has (atom n) i → Has (w ∩ below (suc n)) i
    from i (inl p) = has_cut w (below (suc n)) (cut_left w (below n) p) (has_below (suc n) i (let l = below_lt n (cut_right w (below n) p) in omega arith))
    from i (inr p) =
        let e : n ≡ i = atom_only n p in
        has_cut w (below (suc n)) (subst (λ (x : ℕ). Has w x) e h) (has_below (suc n) i (omega arith))

    same : w ∩ below (suc n) ≡ (w ∩ below n) ∪ atom n
    same =
        ext (w ∩ below (suc n)) ((w ∩ below n) ∪ atom n)
        (λ i p. into i (cut_left w (below (suc n)) p) (below_lt (suc n) (cut_right w (below (suc n)) p)) (ℕ_discrete n i))
        (λ i p. from i (union_cases (w ∩ below n) (atom n) p))

pub below_same : (w n : ℕ) → ¬ Has w n → w ∩ below (suc n) ≡ w ∩ below n
below_same w n h =
    ext (w ∩ below (suc n)) (w ∩ below n)
    (λ i p. into i (cut_left w (below (suc n)) p) (below_lt (suc n) (cut_right w (below (suc n)) p)))
    (λ i p. let l = below_lt n (cut_right w (below n) p) in has_cut w (below (suc n)) (cut_left w (below n) p) (has_below (suc n) i (omega arith)))
  where
    into : (i : ℕ) → Has w i → i < suc n → Has (w ∩ below n) i
    into i p l =
        let e : ¬ (i ≡ n) = λ e. h (subst (λ (x : ℕ). Has w x) e p) in
        has_cut w (below n) p (has_below n i (omega arith))

pub below_none : (w : ℕ) → w ∩ below 0 ≡ 0
below_none w = ext (w ∩ below 0) 0 (λ i p. let l = below_lt 0 (cut_right w (below 0) p) in absurd (omega arith)) (λ i p. absurd (has_none p))

-- a word has atoms below ATOMS alone
pub whole_word : (w : ℕ) → w < 2 ^ ATOMS → w ∩ below ATOMS ≡ w
whole_word w l = ext (w ∩ below ATOMS) w (λ i h. cut_left w (below ATOMS) h) (λ i h. has_cut w (below ATOMS) h (has_below ATOMS i (has_lt w ATOMS l h)))
