-- Inner: which entries of the predecessors' lists still agree with a state.
use Rattle.std.specs.Prelude.{◌≡◌, true, List, ℕ, ◌+◌, ◌-◌, ◌*◌, ◌/◌, ◌≤◌, ◌<◌, min, length, get_or}
use Rattle.atoms.specs.Word.{ATOMS, Has, ◌⊆◌, ◌∩◌, below}
use Rattle.plan.specs.Limits.{MAX_UNITS, LIST_WORDS}
use Rattle.states.specs.State.{Completes}
use Rattle.states.specs.declared.state.State.{State}
use Rattle.joining.specs.Joins.{joins}
use Rattle.joining.specs.declared.sift.Sifted.{Sifted}

-- a list's filter has a bit for each of its LIST_WORDS entries, in BLOCKS words
abbrev pub BLOCKS : ℕ
BLOCKS = LIST_WORDS / ATOMS

abbrev pub FILTER_WORDS : ℕ
FILTER_WORDS = BLOCKS * MAX_UNITS

-- ---- one list

-- of the decided atoms the entry has just those that are up
pub record EntryAgrees (up decided entry : ℕ) : Type 0 where
  pub same : entry ∩ decided ≡ up

-- the entry has what all have, and some has what it has
pub record Spans (r : Sifted) (entry : ℕ) : Type 0 where
  pub from_all : r.all ⊆ entry
  pub to_some : entry ⊆ r.some

-- entry i is looked at: it stays and is spanned where it agrees, and what was spanned and what was kept besides still is
pub record EntrySifted (up decided entry i : ℕ) (before after : Sifted) : Type 0 where
  pub still : (e : ℕ) → Spans before e → Spans after e
  pub new : EntryAgrees up decided entry → Spans after entry
  pub stays : EntryAgrees up decided entry → Has before.kept i → Has after.kept i
  pub others : (j : ℕ) → ¬ (j ≡ i) → Has before.kept j → Has after.kept j

-- so are the entries of a word, from `at` on: each that agrees is kept and spanned
pub record BlockSifted (words : List ℕ) (at bits up decided : ℕ) (before after : Sifted) : Type 0 where
  pub still : (e : ℕ) → Spans before e → Spans after e
  pub new : (i : ℕ) → Has bits i → EntryAgrees up decided (get_or words (at + i) 0) → Has after.kept i × Spans after (get_or words (at + i) 0)

-- and those of a whole list, whose filter stands from `at` on
pub record ListSifted (words : List ℕ) (base up decided at : ℕ) (before after : List ℕ) (r : Sifted) : Type 0 where
  pub same_length : length after ≡ length before
  pub others : (j : ℕ) → (at ≤ j → j < at + BLOCKS → ⊥) → get_or after j 0 ≡ get_or before j 0
  pub new : (k i : ℕ) → k < BLOCKS → Has (get_or before (at + k) 0) i → EntryAgrees up decided (get_or words (base + ATOMS * k + i) 0)
      → Has (get_or after (at + k) 0) i × Spans r (get_or words (base + ATOMS * k + i) 0)

-- the position cut to the head atoms is an entry of the list whose bit is set
pub record Picked (words : List ℕ) (base heads : ℕ) (filter : List ℕ) (at M : ℕ) : Type 0 where
  pub block : ℕ
  pub entry : ℕ
  pub few : block < BLOCKS
  pub is : get_or words (base + ATOMS * block + entry) 0 ≡ M ∩ heads
  pub is_set : Has (get_or filter (at + block) 0) entry

-- what is left of a filter after one list: of that list's part each completion's own entry, of the others all
pub record Refined (words : List ℕ) (base heads at : ℕ) (s : State) (before after : List ℕ) : Type 0 where
  pub same_length : length after ≡ length before
  pub others : (j : ℕ) → (at ≤ j → j < at + BLOCKS → ⊥) → get_or after j 0 ≡ get_or before j 0
  pub own : (M : ℕ) → Picked words base heads before at M → Completes s M → Picked words base heads after at M

-- ---- all lists

-- the position cut to the head atoms is in each of these predecessors' lists
pub record JoinsAll (table counts heads : List ℕ) (predecessors M : ℕ) : Type 0 where
  pub joined : joins table counts heads predecessors M ≡ true

-- the filter has each entry that a completion may have
pub record Filtered (table counts heads : List ℕ) (near : ℕ) (s : State) (filter : List ℕ) : Type 0 where
  pub long : length filter ≡ FILTER_WORDS
  pub each : (M : ℕ) → JoinsAll table counts heads near M → Completes s M → (v : ℕ) → Has near v
      → Picked table (LIST_WORDS * v) (get_or heads v 0) filter (BLOCKS * v) M

-- the filter of all entries
pub record Full (counts filter : List ℕ) : Type 0 where
  pub long : length filter ≡ FILTER_WORDS
  pub each : (v k : ℕ) → v < MAX_UNITS → k < BLOCKS → get_or filter (BLOCKS * v + k) 0 ≡ below (min ATOMS (get_or counts v 0 - ATOMS * k))
