-- Half-decided positions, and the positions that complete them (document 02, S-7).
use Rattle.std.specs.Prelude.{ℕ}
use Rattle.atoms.specs.Word.{◌⊆◌, Apart, ◌∖◌, outside}
use Rattle.states.specs.declared.state.State.{State}

-- "a completion is a position with every up atom and no dropped one"
pub record Completes (s : State) (N : ℕ) : Type 0 where
  pub has_up : s.up ⊆ N
  pub no_dropped : Apart s.dropped N

-- "a word of atoms known up and one known dropped (an atom in both counts as up)"
abbrev pub half_decided : ℕ → ℕ → State
half_decided up dropped = record { up = up; dropped = dropped ∖ up }

-- the atoms of which nothing is known yet
unfoldable pub undecided : ℕ → ℕ → ℕ
undecided up dropped = outside up ∖ dropped
