-- Inner: what steps do to a state, and what they keep.
use Rattle.std.specs.Prelude.{◌≡◌, Bool, true, false, ℕ}
use Rattle.atoms.specs.Word.{Has, ◌⊆◌, Apart, ◌∪◌, atom}
use Rattle.states.specs.State.{Completes}
use Rattle.states.specs.declared.state.State.{State}

-- ---- states

-- an atom is both up and dropped, so that nothing completes the state
pub record Overlaps (s : State) : Type 0 where
  pub overlap : ¬ Apart s.up s.dropped

-- the state s has decided all that n has, and as n has it
pub record Within (n s : State) : Type 0 where
  pub up_within : n.up ⊆ s.up
  pub dropped_within : n.dropped ⊆ s.dropped

-- the state with an atom both up and dropped
unfoldable pub clashed : State → State
clashed s = record { up = s.up ∪ atom 0; dropped = s.dropped ∪ atom 0 }

-- with one more atom dropped, and with one more up
abbrev pub with_dropped : State → ℕ → State
with_dropped s i = record { up = s.up; dropped = s.dropped ∪ atom i }

abbrev pub with_up : State → ℕ → State
with_up s i = record { up = s.up ∪ atom i; dropped = s.dropped }

-- with the atom in one of its phases: up, or dropped
abbrev pub branch_of : State → ℕ → Bool → State
branch_of s i true = with_up s i
branch_of s i false = with_dropped s i

-- with the atoms of the word in a phase as well
abbrev pub decided_word : State → ℕ → Bool → State
decided_word s word true = record { up = s.up ∪ word; dropped = s.dropped }
decided_word s word false = record { up = s.up; dropped = s.dropped ∪ word }

-- what two states say together
abbrev pub both_of : State → State → State
both_of s t = record { up = s.up ∪ t.up; dropped = s.dropped ∪ t.dropped }

-- ---- positions

-- a position of interest that completes the state
pub record Wanted (K : ℕ → Type 0) (s : State) (N : ℕ) : Type 0 where
  pub belongs : K N
  pub completes : Completes s N

-- the position has an atom of the word; it lacks one
pub record SomeUp (word N : ℕ) : Type 0 where
  pub atom : ℕ
  pub in_word : Has word atom
  pub is_up : Has N atom

pub record SomeDown (word N : ℕ) : Type 0 where
  pub atom : ℕ
  pub in_word : Has word atom
  pub is_down : ¬ Has N atom

-- the position has an atom of the word in the phase: up, or not
abbrev pub SomeGoes : ℕ → Bool → ℕ → Type 0
SomeGoes word true N = SomeUp word N
SomeGoes word false N = SomeDown word N

-- ---- steps

-- One contract for every narrowing step: the state only grows, and every position of interest that completes the old state completes the new one.
pub record Narrows (K : ℕ → Type 0) (s t : State) : Type 0 where
  pub up_grows : s.up ⊆ t.up
  pub dropped_grows : s.dropped ⊆ t.dropped
  pub keeps : (N : ℕ) → K N → Completes s N → Completes t N

-- the state after a word of which one atom goes the way that K says; with no atom nothing completes it
pub record OneGoes (K : ℕ → Type 0) (word : ℕ) (s t : State) : Type 0 where
  pub narrows : Narrows K s t
  pub stops : word ≡ 0 → Overlaps t
