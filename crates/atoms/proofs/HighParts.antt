-- The part of a word from an atom on, as a number: it is fixed by the atoms there, and one atom more doubles it.
use Rattle.atoms.proofs.Prelude.{◌≡◌, refl, sym, ap, ◌∙◌, ℕ, ◌+◌, ◌-◌, ◌*◌, ◌/◌, ◌%◌, ◌^◌, ◌≤◌, ◌<◌, arith, div-one, div-eq_of_lt, le-div_iff_mul-le}
use Rattle.atoms.proofs.Prelude.{shr-shr, pow_pos, digit, Has, high}
use Rattle.atoms.proofs.Digits.{digit_lt, same_digits, shifted_digit}
use Rattle.atoms.proofs.Sets.{has_dec}

pub high_none : (w : ℕ) → high 0 w ≡ w
unfolding high
high_none w = div-one w

pub high_all : {w : ℕ} (n : ℕ) → w < 2 ^ n → high n w ≡ 0
unfolding high
high_all n l = div-eq_of_lt l

-- one atom more
high_half : (n w : ℕ) → high n w / 2 ≡ high (n + 1) w
unfolding high
high_half n w = shr-shr w n 1

high_digit : (n w : ℕ) → high n w % 2 ≡ digit w n
unfolding high
high_digit n w = refl

pub high_with : {w n : ℕ} → Has w n → high n w ≡ 2 * high (n + 1) w + 1
high_with {w} {n} h = omega (arith, high_half n w, high_digit n w, h.bit)

pub high_without : {w n : ℕ} → ¬ Has w n → high n w ≡ 2 * high (n + 1) w
high_without {w} {n} h =
    let o : ¬ (digit w n ≡ 1) = λ e. h (record { bit = e }) in
    omega (arith, high_half n w, high_digit n w, digit_lt w n)

pub high_bounds : (n w : ℕ) → (2 * high (n + 1) w ≤ high n w) × (high n w ≤ 2 * high (n + 1) w + 1)
high_bounds n w = (omega (arith, high_half n w), omega (arith, high_half n w))

-- words with the same atoms from n on
pub high_same : (n a b : ℕ) → ((i : ℕ) → n ≤ i → Has a i → Has b i) → ((i : ℕ) → n ≤ i → Has b i → Has a i) → high n a ≡ high n b
unfolding high
high_same n a b f g = same_digits (a / 2 ^ n) (b / 2 ^ n) (λ i. shifted_digit a n i ∙ go i (has_dec a (n + i)) (has_dec b (n + i)) ∙ sym (shifted_digit b n i))
  where
    go : (i : ℕ) → Dec (Has a (n + i)) → Dec (Has b (n + i)) → digit a (n + i) ≡ digit b (n + i)
    go i (yes p) q = p.bit ∙ sym (f (n + i) (omega arith) p).bit
    go i (no p) (yes q) = absurd (p (g (n + i) (omega arith) q))
    go i (no p) (no q) =
        let x : ¬ (digit a (n + i) ≡ 1) = λ e. p (record { bit = e }) in
        let y : ¬ (digit b (n + i) ≡ 1) = λ e. q (record { bit = e }) in
        omega (arith, digit_lt a (n + i), digit_lt b (n + i))

pub high_at : {n : ℕ} (a b : ℕ) → high n a ≡ high n b → (i : ℕ) → n ≤ i → Has a i → Has b i
unfolding high
high_at {n} a b e i l h =
    let k : n + (i - n) ≡ i = omega arith in
    record {
      bit = ap (digit b) (sym k) ∙ sym (shifted_digit b n (i - n)) ∙ ap (λ (x : ℕ). digit x (i - n)) (sym e) ∙ shifted_digit a n (i - n)
          ∙ ap (digit a) k ∙ h.bit;
    }

-- from a higher atom on
pub high_higher : {a b : ℕ} (x y : ℕ) → high a x ≡ high a y → a ≤ b → high b x ≡ high b y
unfolding high
high_higher {a} {b} x y e l =
    let k : a + (b - a) ≡ b = omega arith in
    ap (λ (n : ℕ). x / 2 ^ n) (sym k) ∙ sym (shr-shr x a (b - a)) ∙ ap (λ (w : ℕ). w / 2 ^ (b - a)) e ∙ shr-shr y a (b - a)
    ∙ ap (λ (n : ℕ). y / 2 ^ n) k

pub high_mono : {a b : ℕ} (n : ℕ) → a ≤ b → high n a ≤ high n b
unfolding high
high_mono {a} {b} n l =
    let m : a / 2 ^ n * 2 ^ n ≤ a = (le-div_iff_mul-le (pow_pos n)).0 (omega arith) in
    (le-div_iff_mul-le (pow_pos n)).1 (omega arith)
