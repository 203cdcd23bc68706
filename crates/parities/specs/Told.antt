-- Inner: what constraints tell of parity tables. One whose words hold says that its one use fails, and the table's answer is known.
use Rattle.std.specs.Prelude.{◌≡◌, List, ℕ, ◌+◌, ◌/◌, ◌%◌, ◌<◌}
use Rattle.atoms.specs.Word.{Has, ◌⊆◌, ◌∩◌, ◌∪◌, atom, below}
use Rattle.plan.specs.Limits.{MAX_TABLES}
use Rattle.answer_sets.specs.Lent.{lent, looks, negative, uses, USE_BITS, used_table, inputs, truth}
use Rattle.answer_sets.specs.Program.{SatisfiesAll}
use Rattle.states.specs.declared.state.State.{State}
use Rattle.pilots.specs.Pilots.{FollowAll}
use Rattle.parities.specs.Parity.{Parity}
use Rattle.parities.specs.declared.rows.Row.{Row}

-- rule r is a constraint with one use, and that is of a parity table
pub record TellsParity (rules : List ℕ) (r : ℕ) : Type 0 where
  pub headless : (lent rules).head r ≡ 0
  pub made : ℕ
  pub small : made < USE_BITS
  pub one : uses rules r ∩ below USE_BITS ≡ atom made
  pub parity : Parity (inputs rules (used_table made)) (truth rules (used_table made))

-- the atom is one of a numbered rule that is
pub record ToldAtom (rules : List ℕ) (which a : ℕ) : Type 0 where
  pub rule : ℕ
  pub numbered : Has which rule
  pub tells : TellsParity rules rule
  pub within : Has ((lent rules).head rule ∪ ((lent rules).positive rule ∪ looks rules rule)) a

-- the rule's words hold
pub record Held (rules : List ℕ) (r : ℕ) (s : State) : Type 0 where
  pub up : (lent rules).positive r ⊆ s.up
  pub down : negative rules r ⊆ s.dropped

-- the row of use i where it fails: an even number of the inputs is up where the table must be true and is true with none up, and so on
abbrev pub use_row : List ℕ → ℕ → Row
use_row rules i = record { word = inputs rules (used_table i); bit = (truth rules (used_table i) % 2 + i / MAX_TABLES) % 2 }

-- what the step looks for: pilots follow their tables, and the numbered rules are satisfied
pub record Summed (rules pilots : List ℕ) (which N : ℕ) : Type 0 where
  pub follow : FollowAll rules pilots N
  pub satisfies : SatisfiesAll (lent rules) which N
