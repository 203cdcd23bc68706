-- What the proofs of this crate name of the kit, of the crates below and of its own definitions, each with its home.
pub use Rattle.atoms.proofs.Kit.{Bool, List, List-as-Memᴰ, Memᴰ-append_cases, Memᴰ-eq_of_singleton, Memᴰ-head, Memᴰ-not-nil}
pub use Rattle.atoms.proofs.Kit.{Memᴰ-append_left, Memᴰ-append_right, [], ◌%◌, ◌*◌, ◌++◌, ◌+◌, ◌-◌, ◌/◌, ◌<◌, ◌^◌, ◌∙◌, ◌∷◌, ◌≡◌, ◌≤◌, ◌⊎◌, add-mul, add-one}
pub use Rattle.atoms.proofs.Kit.{ap, ap₂, arith, below_more, dec_lt, digits_div, digits_lt, digits_mod, div-add-mod', div-lt_iff_lt-mul, div-mul-le_self}
pub use Rattle.atoms.proofs.Kit.{eq-eqb, false, inl, inr, le-div_iff_mul-le, le-leb, le-ltb, leb, leb-true, length, length-append, lt-leb, lt-ltb, ltb}
pub use Rattle.atoms.proofs.Kit.{ltb-false, ltb-true, mod-lt, mul-add, mul_assoc, mul_comm, mul-le-mul_left, mul-le-mul_right, ne_eqb, needs, not, not-false}
pub use Rattle.atoms.proofs.Kit.{not-true, or-true, pow-le-pow_right, pow-suc, pow-zero, refl, subst, suc, sym, true, zero, ℕ, ℕ_discrete}
pub use Rattle.atoms.proofs.Tests.{decided_false, decided_true, decides, decides_and, decides_equal, decides_iff, decides_not, decides_or, test_cases}
pub use Rattle.atoms.specs.Bounded.{Decides}
pub use Rattle.atoms.specs.Collected.{Least}
unfoldable pub use Rattle.atoms.specs.Collected.{lowest}
pub use Rattle.packed_decimal.specs.Digits.{Below}
unfoldable pub use Rattle.packed_decimal.specs.Digits.{digits, value_of}
pub use Rattle.packed_decimal.specs.Largest.{BadAt, IsLargest, LargestRight, READING_BYTES, larger, reading_at, readings}
unfoldable pub use Rattle.packed_decimal.specs.Largest.{bad_at, largest_in, largest_of}
pub use Rattle.packed_decimal.specs.MeasuredWord.{MeasuredFound, MeasuredWord}
pub use Rattle.packed_decimal.specs.PackedReading.{DIGITS, DIGIT_VALUES, Decimal, IsReading, MODULUS, NOT_MEASURED, TEN, packed, unpacked}
unfoldable pub use Rattle.packed_decimal.specs.PackedReading.{is_decimal, is_reading, says}
pub use Rattle.packed_decimal.specs.ReadingAnswers.{order_by, reading_order, sum_of}
unfoldable pub use Rattle.packed_decimal.specs.ReadingAnswers.{added_of, compared_of, number_of, reading_of}
pub use Rattle.packed_decimal.specs.ReadingRefusals.{bad_of, refusal_spot, unless_bad_of}
unfoldable pub use Rattle.packed_decimal.specs.ReadingRefusals.{unless_bad}
pub use Rattle.packed_decimal.specs.declared.refusal.Refusal.{Refusal}
pub use Rattle.packed_decimal.specs.declared.refusal.Refusal.TheVariants.{BadReading, LargeNumber}
pub use Rattle.packed_decimal.specs.declared.largest.Placed.{Placed}
pub use Rattle.packed_decimal.specs.declared.sum.Sum.{Sum}
pub use Rattle.std.specs.Prelude.{Err, None, Ok, Option, Result, Some}
pub use Rattle.std.specs.declared.cmp.Ordering.{Ordering}
pub use Rattle.std.specs.declared.cmp.Ordering.TheVariants.{Equal, Greater, Less}
pub use mathlib.Core.Bool.{cond}
