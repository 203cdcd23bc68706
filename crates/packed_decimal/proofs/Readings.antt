-- What a word says as a reading, by cases: 0xFFFF, or four decimal digits.
use Rattle.packed_decimal.proofs.Prelude.{◌≡◌, refl, sym, ◌∙◌, true, ℕ, zero, suc, ◌/◌, ◌%◌, ◌^◌, ◌<◌, ltb, ltb-true, lt-ltb, eq-eqb, ne_eqb, Decides}
use Rattle.packed_decimal.proofs.Prelude.{decides, decided_true, decides_iff, decides_and, decides_or, decides_equal, TEN, DIGITS, DIGIT_VALUES}
use Rattle.packed_decimal.proofs.Prelude.{NOT_MEASURED, unpacked, Decimal, is_decimal, IsReading, is_reading, says, MeasuredWord, Some, None}
use Rattle.packed_decimal.proofs.Positional.{below_none, below_suc, below_last, below_rest}

-- ---- the computing twins

pub decides_decimal : (n word : ℕ) → Decides (Decimal n word) (is_decimal n word)
unfolding is_decimal
decides_decimal zero word = decides true (λ e. below_none DIGIT_VALUES word) (λ d. refl)
decides_decimal (suc n) word =
    let last : Decides (word % DIGIT_VALUES < TEN) (ltb (word % DIGIT_VALUES) TEN) = decides _ (ltb-true _ _) (lt-ltb _ _) in
    decides_iff (λ h. below_suc DIGIT_VALUES n word h.0 h.1) (λ d. (below_last DIGIT_VALUES n word d, below_rest DIGIT_VALUES n word d))
    (decides_and last (decides_decimal n (word / DIGIT_VALUES)))

pub decides_reading : (word : ℕ) → Decides (IsReading word) (is_reading word)
unfolding is_reading
decides_reading word =
    decides_iff (λ r. record { rule = r }) (λ h. h.rule) (decides_or (decides_equal word NOT_MEASURED) (decides_decimal DIGITS word))

-- ---- 0xFFFF

pub unmeasured_is : (word : ℕ) → word ≡ NOT_MEASURED → is_reading word ≡ true
unfolding is_reading
unmeasured_is word e = rw (eq-eqb word NOT_MEASURED e) refl

pub unmeasured_says : (word : ℕ) → word ≡ NOT_MEASURED → says word ≡ None
unfolding says
unmeasured_says word e = rw (eq-eqb word NOT_MEASURED e, says) refl

-- its digits are not decimal
pub unmeasured_breaks_rule : ¬ Decimal DIGITS NOT_MEASURED
unfolding is_decimal
unmeasured_breaks_rule = (decides_decimal DIGITS NOT_MEASURED).no refl

-- ---- any other word

module _ (word : ℕ) (other : ¬ (word ≡ NOT_MEASURED)) where
  pub measured_is : is_reading word ≡ is_decimal DIGITS word
  unfolding is_reading
  measured_is = rw (ne_eqb word NOT_MEASURED other) refl

  pub measured_says : says word ≡ Some (unpacked DIGITS word)
  unfolding says
  measured_says = rw (ne_eqb word NOT_MEASURED other, says) refl

  pub measured_decimal : is_reading word ≡ true → Decimal DIGITS word
  measured_decimal e = (decides_decimal DIGITS word).yes (sym measured_is ∙ e)

  pub measured_word : word < DIGIT_VALUES ^ DIGITS → is_reading word ≡ true → MeasuredWord word
  measured_word l e = record { fits = l; rule = measured_decimal e }

-- a word that keeps the digit rule is a reading, and measured
pub decimal_measured : (word : ℕ) → Decimal DIGITS word → ¬ (word ≡ NOT_MEASURED)
decimal_measured word d e = unmeasured_breaks_rule (rw e at d)

pub decimal_reading : (word : ℕ) → Decimal DIGITS word → is_reading word ≡ true
decimal_reading word d = measured_is word (decimal_measured word d) ∙ decided_true (decides_decimal DIGITS word) d
