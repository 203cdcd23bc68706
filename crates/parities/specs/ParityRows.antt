-- Inner: rows of parities. Row i has a word of atoms and bit i of another word: an odd number of its atoms is up exactly if the bit is set.
use Rattle.std.specs.Prelude.{◌≡◌, List, ℕ, ◌+◌, ◌%◌, ◌<◌, length, get_or}
use Rattle.std.specs.Int.Count.{ones}
use Rattle.atoms.specs.Word.{digit, ◌∩◌}
use Rattle.plan.specs.Limits.{MAX_TABLES}
use Rattle.answer_sets.specs.Lent.{inputs, truth}
use Rattle.states.specs.State.{Completes, undecided}
use Rattle.states.specs.declared.state.State.{State}
use Rattle.parities.specs.Parity.{odd, ◌△◌}
use Rattle.parities.specs.declared.rows.Row.{Row}

-- how many rows there are: one for each table
abbrev pub SUM_ROWS : ℕ
SUM_ROWS = MAX_TABLES

-- ---- one row

-- the row's word and its bit, 0 or 1, are right of N
pub record RowHolds (word bit N : ℕ) : Type 0 where
  pub parity : odd (N ∩ word) ≡ bit

-- the row of a parity table: its inputs and its pilot; an even number of them is up, or an odd one where the table is true with no input up
abbrev pub table_row : List ℕ → List ℕ → ℕ → Row
table_row rules pilots t = record { word = inputs rules t △ get_or pilots t 0; bit = truth rules t % 2 }

-- the row at a state: its open atoms, and the bit turned by those that are up
abbrev pub open_row : Row → State → Row
open_row r s = record {
  word = undecided s.up s.dropped ∩ r.word;
  bit = (ones (s.up ∩ r.word) + r.bit) % 2;
}

-- ---- all rows

-- each row is right of N
pub record RowsHold (words : List ℕ) (bits N : ℕ) : Type 0 where
  pub each : (i : ℕ) → i < SUM_ROWS → RowHolds (get_or words i 0) (digit bits i) N

-- the rows after are right of every position with K that completes the state and of which the rows before are
pub record RowsGathered (K : ℕ → Type 0) (s : State) (before : List ℕ) (bits : ℕ) (after : List ℕ) (bits' : ℕ) : Type 0 where
  pub same_length : length after ≡ length before
  pub right : (N : ℕ) → K N → Completes s N → RowsHold before bits N → RowsHold after bits' N

-- bit i is b now, and no other bit changed
pub record BitPut (bits i b r : ℕ) : Type 0 where
  pub here : digit r i ≡ b
  pub others : (j : ℕ) → ¬ (j ≡ i) → digit r j ≡ digit bits j

-- the rows after are right of the same positions as the rows before
pub record SameRows (before : List ℕ) (bits : ℕ) (after : List ℕ) (bits' : ℕ) : Type 0 where
  pub same_length : length after ≡ length before
  pub there : (N : ℕ) → RowsHold before bits N → RowsHold after bits' N
  pub back : (N : ℕ) → RowsHold after bits' N → RowsHold before bits N
