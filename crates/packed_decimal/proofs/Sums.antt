-- Sums through the numbers: what two readings say together is 10,000 times the carry and what the sum says.
use Rattle.packed_decimal.proofs.Prelude.{◌≡◌, refl, sym, ap₂, ◌∙◌, true, [], ◌∷◌, ℕ, ◌+◌, ◌-◌, ◌*◌, ◌/◌, ◌%◌, ◌^◌, ◌≤◌, ◌<◌, arith}
use Rattle.packed_decimal.proofs.Prelude.{ℕ_discrete, DIGITS, DIGIT_VALUES, MODULUS, NOT_MEASURED, unpacked, packed, Decimal, is_reading, says}
use Rattle.packed_decimal.proofs.Prelude.{unless_bad_of, sum_of, added_of, Option, Some, None, Ok, Err, Refusal}
use Rattle.packed_decimal.specs.declared.sum.Sum.{Sum}
use Rattle.packed_decimal.proofs.FirstBad.{pair_none, pair_good, pair_refused}
use Rattle.packed_decimal.proofs.Conversion.{unpacked_packed, packed_decimal, packed_fits, unpacked_fits}
use Rattle.packed_decimal.proofs.Readings.{unmeasured_says, measured_says, measured_decimal}

-- "With a reading not measured, a sum (carry 0) .. is not measured"
abbrev pub unmeasured_sum : Sum
unmeasured_sum = record { reading = NOT_MEASURED; carry = 0 }

pub sum_unmeasured_left : (r s : Option ℕ) → r ≡ None → sum_of r s ≡ unmeasured_sum
sum_unmeasured_left r s e = rw e refl

pub sum_unmeasured_right : (r s : Option ℕ) → s ≡ None → sum_of r s ≡ unmeasured_sum
sum_unmeasured_right r s e = rw e (go r)
  where
    go : (r : Option ℕ) → sum_of r None ≡ unmeasured_sum
    go (Some x) = refl
    go None = refl

module _ (x y : ℕ) (hx : x < MODULUS) (hy : y < MODULUS) where
  -- up to 9999 it is the sum itself
  pub sum_plain : x + y < MODULUS → sum_of (Some x) (Some y) ≡ record { reading = packed DIGITS (x + y); carry = 0 }
  sum_plain l =
      let rest : (x + y) % MODULUS ≡ x + y = omega arith in
      let carried : (x + y) / MODULUS ≡ 0 = omega arith in
      rw (rest, carried) refl

  -- "with a carry of 1 past 9999"
  pub sum_carries : MODULUS ≤ x + y → sum_of (Some x) (Some y) ≡ record { reading = packed DIGITS (x + y - MODULUS); carry = 1 }
  sum_carries l =
      let rest : (x + y) % MODULUS ≡ x + y - MODULUS = omega arith in
      let carried : (x + y) / MODULUS ≡ 1 = omega arith in
      rw (rest, carried) refl

  -- with its carry it says what both say together, and it keeps the digit rule
  pub sum_adds : MODULUS * (sum_of (Some x) (Some y)).carry + unpacked DIGITS (sum_of (Some x) (Some y)).reading ≡ x + y
  sum_adds = rw (unpacked_packed DIGITS ((x + y) % MODULUS) (omega arith)) (omega arith)

  pub sum_decimal : Decimal DIGITS (sum_of (Some x) (Some y)).reading
  sum_decimal = packed_decimal DIGITS ((x + y) % MODULUS)

-- ---- two measured words

module _ (a b : ℕ) (ra : is_reading a ≡ true) (rb : is_reading b ≡ true) (na : ¬ (a ≡ NOT_MEASURED)) (nb : ¬ (b ≡ NOT_MEASURED)) where
  pub left_fits : unpacked DIGITS a < MODULUS
  left_fits = unpacked_fits DIGITS a (measured_decimal a na ra)

  pub right_fits : unpacked DIGITS b < MODULUS
  right_fits = unpacked_fits DIGITS b (measured_decimal b nb rb)

  both_say : sum_of (says a) (says b) ≡ sum_of (Some (unpacked DIGITS a)) (Some (unpacked DIGITS b))
  both_say = ap₂ sum_of (measured_says a na) (measured_says b nb)

  module _ (x y word : ℕ) (ex : x ≡ unpacked DIGITS a) (ey : y ≡ unpacked DIGITS b) where
    pub words_plain : x + y < MODULUS → word ≡ packed DIGITS (x + y) → sum_of (says a) (says b) ≡ record { reading = word; carry = 0 }
    words_plain l e = rw (e, ex, ey) (both_say ∙ sum_plain (unpacked DIGITS a) (unpacked DIGITS b) left_fits right_fits (omega arith))

    pub words_carry : MODULUS ≤ x + y → word ≡ packed DIGITS (x + y - MODULUS) → sum_of (says a) (says b) ≡ record { reading = word; carry = 1 }
    words_carry l e = rw (e, ex, ey) (both_say ∙ sum_carries (unpacked DIGITS a) (unpacked DIGITS b) left_fits right_fits (omega arith))

-- ---- the answer for two words

pub added_refused : {A : Type 0} (a b : ℕ) (x : A) {r : Refusal} → Err r ≡ unless_bad_of (a ∷ b ∷ []) x → Err r ≡ added_of a b
unfolding added_of
added_refused a b x e = pair_refused a b x (sum_of (says a) (says b)) e

pub added_is : (a b : ℕ) → is_reading a ≡ true → is_reading b ≡ true → added_of a b ≡ Ok (sum_of (says a) (says b))
unfolding added_of
added_is a b ra rb = pair_none a b (sum_of (says a) (says b)) ra rb

-- ---- bounds

-- the carry of a sum is at most 1, and its reading fits 16 bits
pub record SumFits (s : Sum) : Type 0 where
  pub carry_fits : s.carry ≤ 1
  pub reading_fits : s.reading < DIGIT_VALUES ^ DIGITS

unmeasured_fits : SumFits unmeasured_sum
unmeasured_fits = record { carry_fits = omega arith; reading_fits = omega arith }

measured_fits : (x y : ℕ) → x < MODULUS → y < MODULUS → SumFits (sum_of (Some x) (Some y))
measured_fits x y hx hy = record { carry_fits = omega arith; reading_fits = packed_fits DIGITS ((x + y) % MODULUS) }

said_fits : (a b : ℕ) → is_reading a ≡ true → is_reading b ≡ true → SumFits (sum_of (says a) (says b))
said_fits a b ra rb = go (ℕ_discrete a NOT_MEASURED) (ℕ_discrete b NOT_MEASURED)
  where
    go : Dec (a ≡ NOT_MEASURED) → Dec (b ≡ NOT_MEASURED) → SumFits (sum_of (says a) (says b))
    go (yes e) d = rw (sum_unmeasured_left (says a) (says b) (unmeasured_says a e)) unmeasured_fits
    go (no na) (yes e) = rw (sum_unmeasured_right (says a) (says b) (unmeasured_says b e)) unmeasured_fits
    go (no na) (no nb) =
        rw (both_say a b ra rb na nb)
        (measured_fits (unpacked DIGITS a) (unpacked DIGITS b) (left_fits a b ra rb na nb) (right_fits a b ra rb na nb))

pub added_fits : (a b : ℕ) (s : Sum) → added_of a b ≡ Ok s → SumFits s
unfolding added_of
added_fits a b s e =
    let good = pair_good a b (sum_of (says a) (says b)) (sym e) in
    let answered = added_is a b good.0 good.1 in
    let same : s ≡ sum_of (says a) (says b) = cc in
    rw same (said_fits a b good.0 good.1)
