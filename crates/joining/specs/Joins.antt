-- Inner: the lists of direct predecessors, and what joins them.
use Rattle.std.specs.Prelude.{Bool, List, ℕ, ◌+◌, ◌*◌, ◌^◌, ◌≤◌, ◌<◌, eqb, length, get_or}
use Rattle.atoms.specs.Word.{Has, ◌∩◌}
use Rattle.atoms.specs.Bounded.{all_in, some_below}
use Rattle.plan.specs.Limits.{MAX_UNITS, LIST_WORDS}

-- the value is in the list
unfoldable pub is_among : List ℕ → ℕ → Bool
is_among list value = some_below (length list) (λ i. eqb (get_or list i 0) value)

-- the value is one of the `count` words from `base` on
unfoldable pub is_listed : List ℕ → ℕ → ℕ → ℕ → Bool
is_listed words base count value = some_below count (λ i. eqb (get_or words (base + i) 0) value)

-- the position cut to the head atoms of v is in v's list, for each direct predecessor v
unfoldable pub joins : List ℕ → List ℕ → List ℕ → ℕ → ℕ → Bool
joins table counts heads predecessors M =
    all_in MAX_UNITS predecessors (λ v. is_listed table (LIST_WORDS * v) (get_or counts v 0) (M ∩ get_or heads v 0))

-- the lists of the direct predecessors, with their counts and head atoms, are there
pub record Joinable (table counts heads : List ℕ) (predecessors : ℕ) : Type 0 where
  pub table_long : (v : ℕ) → Has predecessors v → LIST_WORDS * v + LIST_WORDS ≤ length table
  pub counts_long : MAX_UNITS ≤ length counts
  pub heads_long : MAX_UNITS ≤ length heads
  pub few : predecessors < 2 ^ MAX_UNITS
  pub small : (v : ℕ) → v < MAX_UNITS → get_or counts v 0 ≤ LIST_WORDS
