-- Inner: pilots. A pilot is an atom that is up exactly where a contact table is true; it stands in no rule.
use Rattle.std.specs.Prelude.{◌≡◌, true, false, List, ℕ, ◌<◌, get_or}
use Rattle.atoms.specs.Word.{Has, ◌⊆◌, Apart}
use Rattle.plan.specs.Limits.{MAX_TABLES}
use Rattle.contact_tables.specs.ContactTable.{row, table_answer}
use Rattle.answer_sets.specs.Lent.{inputs, truth}

-- the atoms of w follow a table with these words at M: they are up where it is true, and dropped where it is false
pub record FollowsWords (inputs truth w M : ℕ) : Type 0 where
  pub when_true : table_answer inputs truth M ≡ true → w ⊆ M
  pub when_false : table_answer inputs truth M ≡ false → Apart w M

-- they follow table t
abbrev pub FollowsTable : List ℕ → ℕ → ℕ → ℕ → Type 0
FollowsTable rules t w M = FollowsWords (inputs rules t) (truth rules t) w M

-- each table's pilot follows it
pub record FollowAll (rules pilots : List ℕ) (M : ℕ) : Type 0 where
  pub each : (t : ℕ) → t < MAX_TABLES → FollowsTable rules t (get_or pilots t 0) M

-- the row at M is one of these rows
pub record RowAmong (inputs rows M : ℕ) : Type 0 where
  pub among : Has rows (row inputs M)
