-- Inner: the rows of a table that a half-decided position leaves.
use Rattle.std.specs.Prelude.{◌≡◌, ℕ, ◌^◌, ◌<◌}
use Rattle.atoms.specs.Word.{Has}
use Rattle.plan.specs.Limits.{MAX_INPUTS}
use Rattle.states.specs.State.{Completes, half_decided}
use Rattle.contact_tables.specs.ContactTable.{place, row}

-- some completion has this row
pub record RowReached (inputs up dropped j : ℕ) : Type 0 where
  pub position : ℕ
  pub completes : Completes (half_decided up dropped) position
  pub is : row inputs position ≡ j

-- how many rows a truth word has room for
abbrev pub ROWS : ℕ
ROWS = 2 ^ MAX_INPUTS

-- row j has bit k
pub record InColumn (k j : ℕ) : Type 0 where
  pub row_lt : j < ROWS
  pub bit : Has j k

-- bit k of row j says of atom a what is known of it
pub record BitAgrees (up dropped a k j : ℕ) : Type 0 where
  pub when_up : Has up a → Has j k
  pub when_dropped : ¬ Has up a → Has dropped a → ¬ Has j k

-- a is an input with a place in rows, and each of these rows has it up
pub record EachRow (inputs rows a : ℕ) : Type 0 where
  pub input : Has inputs a
  pub place_lt : place inputs a < MAX_INPUTS
  pub each : (j : ℕ) → Has rows j → Has j (place inputs a)

-- none of these rows has
pub record NoRow (inputs rows a : ℕ) : Type 0 where
  pub input : Has inputs a
  pub place_lt : place inputs a < MAX_INPUTS
  pub none : (j : ℕ) → Has rows j → ¬ Has j (place inputs a)
