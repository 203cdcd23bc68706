-- The binary digits of a word, and what each operation does to a digit. Nothing above proofs/Sets.antt cites these.
use Rattle.atoms.proofs.Prelude.{◌≡◌, refl, sym, ap, ap₂, ◌∙◌, ℕ, zero, suc, ◌+◌, ◌-◌, ◌*◌, ◌/◌, ◌%◌, ◌^◌, ◌≤◌, ◌<◌, min, max, arith, pow-suc, div-one}
use Rattle.atoms.proofs.Prelude.{div-eq_of_lt, bit_and, bit_or, and_step, or_step, and_shr, or_shr, and_le_l, bin_ind, pow_mono, pow_pos, shl_exact}
use Rattle.atoms.proofs.Prelude.{shr-shr, digit}

pub digit_lt : (w i : ℕ) → digit w i < 2
digit_lt w i = omega arith

pub digit_low : (w : ℕ) → digit w zero ≡ w % 2
digit_low w = ap (λ (x : ℕ). x % 2) (div-one w)

-- the digit at i + 1 is the half's digit at i
pub digit_next : (w i : ℕ) → digit w (suc i) ≡ digit (w / 2) i
digit_next w i = ap (λ (x : ℕ). x % 2) (ap (λ (n : ℕ). w / 2 ^ n) (omega arith) ∙ sym (shr-shr w 1 i))

pub digit_zero : (i : ℕ) → digit 0 i ≡ 0
digit_zero zero = refl
digit_zero (suc i) = digit_next 0 i ∙ digit_zero i

pub and_at : (a b i : ℕ) → digit (bit_and a b) i ≡ min (digit a i) (digit b i)
and_at a b i =
    let e : digit (bit_and a b) i ≡ bit_and (a / 2 ^ i) (b / 2 ^ i) % 2 = ap (λ (x : ℕ). x % 2) (and_shr a b i) in
    omega (arith, and_step (a / 2 ^ i) (b / 2 ^ i))

pub or_at : (a b i : ℕ) → digit (bit_or a b) i ≡ max (digit a i) (digit b i)
or_at a b i =
    let e : digit (bit_or a b) i ≡ bit_or (a / 2 ^ i) (b / 2 ^ i) % 2 = ap (λ (x : ℕ). x % 2) (or_shr a b i) in
    omega (arith, or_step (a / 2 ^ i) (b / 2 ^ i))

half_sub : (a b : ℕ) → (a - bit_and a b) / 2 ≡ a / 2 - bit_and (a / 2) (b / 2)
half_sub a b = omega (arith, and_step a b, and_le_l (a / 2) (b / 2))

low_sub : (a b : ℕ) → (a - bit_and a b) % 2 ≡ a % 2 - min (a % 2) (b % 2)
low_sub a b =
    let n = bit_and (a / 2) (b / 2) in
    let le : n ≤ a / 2 = and_le_l (a / 2) (b / 2) in
    let m = min (a % 2) (b % 2) in
    let ml : m ≤ a % 2 = omega arith in
    let e : a - bit_and a b ≡ (a / 2 - n) * 2 + (a % 2 - m) = omega (arith, and_step a b) in
    omega arith

pub sub_at : (a b i : ℕ) → digit (a - bit_and a b) i ≡ digit a i - min (digit a i) (digit b i)
sub_at a b zero =
    digit_low (a - bit_and a b) ∙ low_sub a b
    ∙ ap₂ (λ (x y : ℕ). x - min x y) (sym (digit_low a)) (sym (digit_low b))
sub_at a b (suc i) =
    digit_next (a - bit_and a b) i ∙ ap (λ (x : ℕ). digit x i) (half_sub a b)
    ∙ (sub_at (a / 2) (b / 2) i ∙ omega (arith, digit_next a i, digit_next b i))

-- a number with no digit set is 0
pub no_digit : (a : ℕ) → ((i : ℕ) → digit a i ≡ 0) → a ≡ 0
no_digit = bin_ind (λ (n : ℕ). ((i : ℕ) → digit n i ≡ 0) → n ≡ 0) (λ h. refl) step
  where
    step : (n : ℕ) → (((i : ℕ) → digit (n / 2) i ≡ 0) → n / 2 ≡ 0) → ((i : ℕ) → digit n i ≡ 0) → n ≡ 0
    step n ih h =
        let low : n % 2 ≡ 0 = sym (digit_low n) ∙ h 0 in
        let high : n / 2 ≡ 0 = ih (λ i. sym (digit_next n i) ∙ h (suc i)) in
        omega arith

-- two numbers with the same digits are equal
pub same_digits : (a b : ℕ) → ((i : ℕ) → digit a i ≡ digit b i) → a ≡ b
same_digits = bin_ind (λ (n : ℕ). (b : ℕ) → ((i : ℕ) → digit n i ≡ digit b i) → n ≡ b) none step
  where
    none : (b : ℕ) → ((i : ℕ) → digit 0 i ≡ digit b i) → 0 ≡ b
    none b h = sym (no_digit b (λ i. sym (h i) ∙ digit_zero i))

    step : (n : ℕ) → ((b : ℕ) → ((i : ℕ) → digit (n / 2) i ≡ digit b i) → n / 2 ≡ b)
        → (b : ℕ) → ((i : ℕ) → digit n i ≡ digit b i) → n ≡ b
    step n ih b h =
        let low : n % 2 ≡ b % 2 = sym (digit_low n) ∙ h 0 ∙ digit_low b in
        let high : n / 2 ≡ b / 2 = ih (b / 2) (λ i. sym (digit_next n i) ∙ h (suc i) ∙ digit_next b i) in
        omega arith

half_power : (j : ℕ) → 2 ^ suc j / 2 ≡ 2 ^ j
half_power j = omega (arith, pow-suc 2 j)

-- the digits of a power of two: 1 at its own place and 0 at every other
pub power_at : (i : ℕ) → digit (2 ^ i) i ≡ 1
power_at zero = refl
power_at (suc i) = digit_next (2 ^ suc i) i ∙ ap (λ (x : ℕ). digit x i) (half_power i) ∙ power_at i

pub power_off : (i j : ℕ) → ¬ (i ≡ j) → digit (2 ^ i) j ≡ 0
power_off zero zero h = absurd (h refl)
power_off zero (suc j) h = digit_next 1 j ∙ digit_zero j
power_off (suc i) zero h = digit_low (2 ^ suc i) ∙ omega (arith, pow-suc 2 i)
power_off (suc i) (suc j) h =
    digit_next (2 ^ suc i) j ∙ ap (λ (x : ℕ). digit x j) (half_power i) ∙ power_off i j (λ e. h (ap suc e))

-- a number below 2 ^ n has no digit at n or above
pub high_digit : (w n i : ℕ) → w < 2 ^ n → n ≤ i → digit w i ≡ 0
high_digit w n i h le =
    let p : 2 ^ n ≤ 2 ^ i = pow_mono le in
    let q : w < 2 ^ i = omega arith in
    ap (λ (x : ℕ). x % 2) (div-eq_of_lt q)

-- a digit of the number's upper part is a digit of the number
pub shifted_digit : (w n i : ℕ) → digit (w / 2 ^ n) i ≡ digit w (n + i)
shifted_digit w n i = ap (λ (x : ℕ). x % 2) (shr-shr w n i)

-- 2 ^ n - 1 has the digits below n
pub ones_at : (n i : ℕ) → i < n → digit (2 ^ n - 1) i ≡ 1
ones_at zero i h = absurd (omega arith)
ones_at (suc n) zero h = digit_low (2 ^ suc n - 1) ∙ omega (arith, pow-suc 2 n, pow_pos n)
ones_at (suc n) (suc i) h =
    digit_next (2 ^ suc n - 1) i ∙ ap (λ (x : ℕ). digit x i) (half n) ∙ ones_at n i (omega arith)
  where
    half : (m : ℕ) → (2 ^ suc m - 1) / 2 ≡ 2 ^ m - 1
    half m = omega (arith, pow-suc 2 m, pow_pos m)

-- what `1 << n` gives
pub shifted_one : (n : ℕ) → n < 64 → (1 * 2 ^ n) % 2 ^ 64 ≡ 2 ^ n
shifted_one n h = shl_exact {a = 1} 1 n 64 (omega arith) (omega arith) ∙ omega arith
