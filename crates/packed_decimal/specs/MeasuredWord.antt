-- Inner: what the functions ask that compare words in place of numbers.
use Rattle.std.specs.Prelude.{ℕ, ◌^◌, ◌<◌, Option, MatchOption}
use Rattle.packed_decimal.specs.PackedReading.{DIGITS, DIGIT_VALUES, Decimal}
use Rattle.packed_decimal.specs.declared.largest.Placed.{Placed}

-- the word of a measured reading
pub record MeasuredWord (word : ℕ) : Type 0 where
  pub fits : word < DIGIT_VALUES ^ DIGITS
  pub rule : Decimal DIGITS word

-- what was found, if anything, is measured
abbrev pub MeasuredFound : Option Placed → Type 0
MeasuredFound found = MatchOption found (Unit {0}) (λ best. MeasuredWord best.word)
