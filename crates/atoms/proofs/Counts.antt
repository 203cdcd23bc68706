-- How many atoms a word has, its lowest atom and its highest. The count of a smaller set is smaller: this is what recursion over undecided atoms falls by.
use Rattle.atoms.proofs.Prelude.{◌≡◌, refl, sym, ◌∙◌, subst, ℕ, zero, suc, ◌-◌, ◌/◌, ◌%◌, ◌^◌, ◌≤◌, ◌<◌, arith, pow-suc, le-div_iff_mul-le}
use Rattle.atoms.proofs.Prelude.{div-lt_iff_lt-mul, ℕ_discrete, ones, ones_step, ones-le, count_leading_zeros, leading_le, leading_top, count_trailing_zeros}
use Rattle.atoms.proofs.Prelude.{trailing_le, under, pow_pos, bin_ind, ATOMS, digit, Has, ◌⊆◌, ◌∖◌, atom, Lowest, Highest}
use Rattle.atoms.proofs.Digits.{digit_low, digit_next}
use Rattle.atoms.proofs.Sets.{has_dec, has_lt, has_none, some_atom, has_without, without_left, without_right, has_atom, subset_antisym}

has_half : {w i : ℕ} → Has w (suc i) → Has (w / 2) i
has_half {w} {i} p = record { bit = sym (digit_next w i) ∙ p.bit }

has_double : (w : ℕ) {i : ℕ} → Has (w / 2) i → Has w (suc i)
has_double w {i} p = record { bit = digit_next w i ∙ p.bit }

half_subset : {a b : ℕ} → a ⊆ b → a / 2 ⊆ b / 2
half_subset {a} f = record { each = λ i p. has_half (f.each (suc i) (has_double a p)) }

low_subset : {a b : ℕ} → a ⊆ b → a % 2 ≤ b % 2
low_subset {a} {b} f = go (ℕ_discrete (a % 2) 1)
  where
    go : Dec (a % 2 ≡ 1) → a % 2 ≤ b % 2
    go (yes e) =
        let q : digit b 0 ≡ 1 = (f.each 0 (record { bit = digit_low a ∙ e })).bit in
        let r : digit b 0 ≡ b % 2 = digit_low b in
        omega arith
    go (no e) = omega arith

ones_zero : ones 0 ≡ 0
unfolding ones
ones_zero = refl

-- a subset has at most as many atoms
pub count-le : (a b : ℕ) → a ⊆ b → ones a ≤ ones b
count-le = bin_ind (λ (n : ℕ). (b : ℕ) → n ⊆ b → ones n ≤ ones b) none step
  where
    none : (b : ℕ) → 0 ⊆ b → ones 0 ≤ ones b
    none b f = omega (arith, ones_zero)

    step : (n : ℕ) → ((b : ℕ) → n / 2 ⊆ b → ones (n / 2) ≤ ones b) → (b : ℕ) → n ⊆ b → ones n ≤ ones b
    step n ih b f = omega (arith, ones_step n, ones_step b, ih (b / 2) (half_subset f), low_subset f)

-- and fewer where it lacks one of them
pub count_lt : (i a b : ℕ) → a ⊆ b → Has b i → ¬ Has a i → ones a < ones b
count_lt zero a b f p h =
    let q : a % 2 ≡ 0 = low_zero in
    let r : b % 2 ≡ 1 = sym (digit_low b) ∙ p.bit in
    omega (arith, ones_step a, ones_step b, count-le (a / 2) (b / 2) (half_subset f))
  where
    low_zero : a % 2 ≡ 0
    low_zero =
        let n : ¬ (a % 2 ≡ 1) = λ e. h (record { bit = digit_low a ∙ e }) in
        omega arith
count_lt (suc i) a b f p h =
    omega
    (arith, ones_step a, ones_step b, low_subset f, count_lt i (a / 2) (b / 2) (half_subset f) (has_half p) (λ q. h (has_double a q)))

-- one atom fewer
pub count_without : (w i : ℕ) → Has w i → ones (w ∖ atom i) < ones w
count_without w i p =
    count_lt i (w ∖ atom i) w (record { each = λ j q. without_left w (atom i) q }) p
    (λ q. without_right w (atom i) q (has_atom i))

-- `trailing_zeros` of a word that is not 0 is its lowest atom
pub trailing_lowest : (k w : ℕ) → ¬ (w ≡ 0) → w < 2 ^ k → Lowest w (count_trailing_zeros k w)
unfolding count_trailing_zeros
trailing_lowest zero w h l = absurd (h (omega arith))
trailing_lowest (suc k) w h l = go (w % 2) refl (λ n. trailing_lowest k (w / 2) n (omega (arith, pow-suc 2 k)))
  where
    even : (t : ℕ) → w % 2 ≡ 0 → Lowest (w / 2) t → Lowest w (suc t)
    even t e r = record { here = has_double w r.here; least = lower }
      where
        lower : (i : ℕ) → i < suc t → ¬ Has w i
        lower zero q p = omega (arith, digit_low w, p.bit)
        lower (suc i) q p = r.least i (omega arith) (has_half p)

    go : (d : ℕ) → w % 2 ≡ d → (¬ (w / 2 ≡ 0) → Lowest (w / 2) (count_trailing_zeros k (w / 2)))
        → Lowest w (under d (count_trailing_zeros k (w / 2)))
    go zero e r = even (count_trailing_zeros k (w / 2)) e (r (λ q. h (omega arith)))
    go (suc d) e r = record {
      here = record { bit = digit_low w ∙ omega arith };
      least = λ i q. absurd (omega arith);
    }

-- the power of two below a word is its highest atom
top_atom : (w j : ℕ) → 2 ^ j ≤ w → w < 2 ^ suc j → Highest w j
top_atom w j l h = record { here = record { bit = one }; most = λ i k. let m = has_lt w (suc j) h k in omega arith }
  where
    low : 1 ≤ w / 2 ^ j
    low = (le-div_iff_mul-le (pow_pos j)).1 (omega arith)

    upper : w / 2 ^ j < 2
    upper = (div-lt_iff_lt-mul (pow_pos j)).1 (omega (arith, pow-suc 2 j))

    one : digit w j ≡ 1
    one = omega (arith, low, upper)

-- above it stand the `leading_zeros` of a word that is not 0
pub leading_highest : (w : ℕ) → ¬ (w ≡ 0) → w < 2 ^ ATOMS → Highest w (63 - count_leading_zeros 64 w) × (count_leading_zeros 64 w < ATOMS)
leading_highest w n l =
    let t = leading_top 64 w (omega arith) l in
    let e : t.0 ≡ 63 - count_leading_zeros 64 w = omega (arith, t.1) in
    (subst (Highest w) e (top_atom w t.0 t.2 t.3), omega (arith, t.1))

-- For a loop that takes one atom a turn: what is left, d, is smaller and still within.
pub taken_less : {w r d : ℕ} → Lowest w r → d ≡ w ∖ atom r → ones d < ones w
taken_less {w} {r} low e = subst (λ (x : ℕ). ones x < ones w) (sym e) (count_without w r low.here)

pub taken_within : {v w r d : ℕ} → w ⊆ v → Lowest w r → d ≡ w ∖ atom r → d ⊆ v
taken_within {v} {w} {r} f low e =
    subst (λ (x : ℕ). x ⊆ v) (sym e) (record { each = λ i p. f.each i (without_left w (atom r) p) })

-- a subset that is not the whole set has fewer atoms
pub count_proper : (a b : ℕ) → a ⊆ b → ¬ (a ≡ b) → ones a < ones b
count_proper a b f n =
    let s = some_atom (b ∖ a) (λ z. n (subset_antisym f (covered z))) in
    count_lt s.0 a b f (without_left b a s.1) (without_right b a s.1)
  where
    covered : b ∖ a ≡ 0 → b ⊆ a
    covered z = record { each = λ i p. go i p (has_dec a i) }
      where
        go : (i : ℕ) → Has b i → Dec (Has a i) → Has a i
        go i p (yes q) = q
        go i p (no q) = absurd (has_none (subst (λ (x : ℕ). Has x i) z (has_without b a p q)))

-- no count of a word's bits is above 64
pub counts_small : (w : ℕ) → w < 2 ^ 64 → (ones w ≤ 64) × (count_leading_zeros 64 w ≤ 64) × (count_trailing_zeros 64 w ≤ 64)
counts_small w h = (ones-le 64 w h, leading_le 64 w, trailing_le 64 w)
