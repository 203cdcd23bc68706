-- One reading of the panel meter. Document 02, S-5: "tenths of a millisecond as four decimal digits, four bits each, highest digit first,
-- in two bytes. 0xFFFF means not measured, the one exception to the digit rule." A word is the two bytes as one number, the first the high one.
use Rattle.std.specs.Prelude.{◌≡◌, Bool, true, false, ◌&&◌, ◌||◌, ◌⊎◌, ℕ, zero, suc, ◌/◌, ◌%◌, ◌^◌, ltb, eqb, Option, Some, None}
use Rattle.packed_decimal.specs.Digits.{digits, value_of, Below}

-- "four decimal digits"
abbrev pub DIGITS : ℕ
DIGITS = 4

-- how many values a decimal digit has
abbrev pub TEN : ℕ
TEN = 10

-- "four bits each": how many values they have
abbrev pub DIGIT_VALUES : ℕ
DIGIT_VALUES = 2 ^ 4

-- how many whole numbers a measured reading can say: "all 10,000 values"
abbrev pub MODULUS : ℕ
MODULUS = TEN ^ DIGITS

-- "0xFFFF means not measured"
abbrev pub NOT_MEASURED : ℕ
NOT_MEASURED = 0xFFFF

-- the whole number that n packed digits say
abbrev pub unpacked : ℕ → ℕ → ℕ
unpacked n word = value_of TEN (digits DIGIT_VALUES n word)

-- the n packed digits of a whole number
abbrev pub packed : ℕ → ℕ → ℕ
packed n x = value_of DIGIT_VALUES (digits TEN n x)

-- none of the n packed digits is "a digit above 9"
abbrev pub Decimal : ℕ → ℕ → Type 0
Decimal n word = Below TEN (digits DIGIT_VALUES n word)

-- the same, computed
unfoldable pub is_decimal : ℕ → ℕ → Bool
is_decimal zero word = true
is_decimal (suc n) word = ltb (word % DIGIT_VALUES) TEN && is_decimal n (word / DIGIT_VALUES)

-- the word keeps the digit rule, or is "the one exception"
pub record IsReading (word : ℕ) : Type 0 where
  pub rule : (word ≡ NOT_MEASURED) ⊎ Decimal DIGITS word

-- the same, computed
unfoldable pub is_reading : ℕ → Bool
is_reading word = eqb word NOT_MEASURED || is_decimal DIGITS word

-- what a reading says: a whole number, or that nothing was measured
unfoldable pub says : ℕ → Option ℕ
says word = elim (eqb word NOT_MEASURED) [ true ↦ None | false ↦ Some (unpacked DIGITS word) ]
