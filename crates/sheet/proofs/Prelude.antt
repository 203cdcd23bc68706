-- What the proofs of this crate name of the kit, of the crates below and of its own definitions, each with its home.
pub use Prim.Native.Nat.{◌*◌, ◌+◌, ◌-◌, ◌/◌, ◌<◌, ◌^◌, ◌≤◌, suc, zero, ℕ}
pub use Rattle.sheet.specs.LentSheet.{Put}
unfoldable pub use Rattle.sheet.specs.LentSheet.{bytes_written, filled}
pub use Rattle.sheet.specs.Sheet.{line_length}
unfoldable pub use Rattle.sheet.specs.Sheet.{at_word, decimal, hexadecimal, line_end, places, places_within, position_line, position_lines, positions_sheet}
unfoldable pub use Rattle.sheet.specs.Sheet.{positions_word, refusal_sheet, refused_word}
pub use borrow.Author.Rules.{rules}
pub use borrow.Author.Tests.{le-leb, le-ltb, leb-false, leb-true, lt-leb, lt-ltb}
pub use lib.Dec.{leb, lit<, lit≤}
pub use lib.ListN.{drop, get_or, length, length-append, set, take}
pub use lib.Seq.{sets, sets-eq, take_all, take-suc}
pub use mathlib.Core.Bool.{Bool, false, true}
pub use mathlib.Core.List.{List, [], ◌++◌, ◌∷◌, append_assoc, append-nil}
pub use mathlib.Core.Path.{◌∙◌, ◌≡◌, ap, refl, sym}
pub use native.Mathlib.Decide.{dec_lt}
pub use native.Mathlib.Nat.{add_assoc, add-suc, add-zero, lt_of_le_of_lt, lt_trans, pow-le-pow_right, pow-suc, suc-add, zero-add}
pub use native.Mathlib.Numerals.{add-one}
pub use native.Mathlib.Omega.{arith}
