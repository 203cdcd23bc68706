-- What a caller gets, by the sentences of document 02, S-9.
use Rattle.std.specs.Prelude.{◌≡◌, List, ◌++◌, ◌↔◌, ◌⊎◌, ℕ, ◌+◌, ◌*◌, ◌/◌, ◌%◌, ◌≤◌, ◌<◌, length, get_or, drop, Result, Ok, Err}
use Rattle.atoms.specs.Word.{ATOMS, Has}
use Rattle.plan.specs.Faults.{CODE_STEP}
use Rattle.relay_rows.specs.RelaySheet.{AREA_WORDS, ROW_WORDS, row_word, rows_of, position_word, positions_of}
use Rattle.relay_rows.specs.Columns.{Scattered}
use Rattle.relay_rows.specs.declared.area.NoSheet.{NoSheet}

-- "Errors: 22, .. spot 0": the number and the spot of an answer; 0 is no refusal
abbrev pub rows_number : Result (Unit {0}) NoSheet → ℕ
rows_number (Ok written) = 0
rows_number (Err refused) = 22

abbrev pub rows_spot : Result (Unit {0}) NoSheet → ℕ
rows_spot (Ok written) = 0
rows_spot (Err refused) = 0

-- the answer as one number, a refusal's as that of a plan
abbrev pub rows_code : Result (Unit {0}) NoSheet → ℕ
rows_code r = CODE_STEP * rows_number r + rows_spot r

-- "either lent area below 256 words or a count above 256"
abbrev pub Refusable : ℕ → ℕ → ℕ → Type 0
Refusable read written count = (read < AREA_WORDS) ⊎ ((written < AREA_WORDS) ⊎ (AREA_WORDS < count))

-- anything else is taken
pub record Suits (read written count : ℕ) : Type 0 where
  pub read_long : AREA_WORDS ≤ read
  pub written_long : AREA_WORDS ≤ written
  pub count-le : count ≤ AREA_WORDS

-- Inner: both areas are long enough, and there is a word q to a row
pub record PartTakes (read written : List ℕ) (q : ℕ) : Type 0 where
  pub read_long : AREA_WORDS ≤ length read
  pub written_long : AREA_WORDS ≤ length written
  pub part : q < ROW_WORDS

-- Inner: word q of each row is written
abbrev pub RowPart : List ℕ → ℕ → ℕ → List ℕ → List ℕ → Type 0
RowPart list count q before after = Scattered (λ i. row_word count list (q + ROW_WORDS * i)) q ROW_WORDS before after ATOMS

-- Inner: the positions from 64 * q on are written
abbrev pub PositionPart : List ℕ → ℕ → ℕ → List ℕ → List ℕ → Type 0
PositionPart rows count q before after = Scattered (λ j. position_word count rows (q * ATOMS + j)) (q * ATOMS) 1 before after ATOMS

-- bit j of row i in an area of rows
abbrev pub RowBit : List ℕ → ℕ → ℕ → Type 0
RowBit rows i j = Has (get_or rows (ROW_WORDS * i + j / ATOMS) 0) (j % ATOMS)

-- "Words past the first 256 of a written area are never touched"
pub record Untouched (before after : List ℕ) : Type 0 where
  pub long : length after ≡ length before
  pub past : (w : ℕ) → AREA_WORDS ≤ w → get_or after w 0 ≡ get_or before w 0

-- "row i bit j telling whether position j has atom i up; bits from the count on are 0"
pub record RowsWritten (list : List ℕ) (count : ℕ) (before after : List ℕ) : Type 0 where
  pub bits : (i j : ℕ) → i < ATOMS → j < AREA_WORDS → RowBit after i j ↔ ((j < count) × Has (get_or list j 0) i)
  pub untouched : Untouched before after
  pub is : after ≡ rows_of count list ++ drop AREA_WORDS before

-- "The way back ignores bits from the count on, restores every word of the list below the count, and writes 0 in the rest"
pub record PositionsWritten (rows : List ℕ) (count : ℕ) (before after : List ℕ) : Type 0 where
  pub below : (j i : ℕ) → j < count → i < ATOMS → Has (get_or after j 0) i ↔ RowBit rows i j
  pub rest : (j : ℕ) → count ≤ j → j < AREA_WORDS → get_or after j 0 ≡ 0
  pub untouched : Untouched before after
  pub is : after ≡ positions_of count rows ++ drop AREA_WORDS before

-- a call: "22 .. nothing written", or all that is to be written
pub record Rearranges (read before after : List ℕ) (count : ℕ) (Right : Type 0) (r : Result (Unit {0}) NoSheet) : Type 0 where
  pub refused : Refusable (length read) (length before) count → (r ≡ Err (record {})) × (after ≡ before)
  pub written : Suits (length read) (length before) count → (r ≡ Ok tt) × Right

abbrev pub RowsAnswered : List ℕ → ℕ → List ℕ → List ℕ → Result (Unit {0}) NoSheet → Type 0
RowsAnswered list count before after = Rearranges list before after count (RowsWritten list count before after)

abbrev pub PositionsAnswered : List ℕ → ℕ → List ℕ → List ℕ → Result (Unit {0}) NoSheet → Type 0
PositionsAnswered rows count before after = Rearranges rows before after count (PositionsWritten rows count before after)
