-- Inner: nogoods. A nogood is a pair of words, up and dropped, that no position of interest completes; a pair is a state.
use Rattle.std.specs.Prelude.{◌≡◌, Bool, true, false, ℕ}
use Rattle.atoms.specs.Word.{◌∪◌, ◌∖◌, atom}
use Rattle.states.specs.State.{Completes}
use Rattle.states.specs.Narrowing.{Within}
use Rattle.states.specs.declared.state.State.{State}

-- N does not complete the pair
pub record Avoids (n : State) (N : ℕ) : Type 0 where
  pub never : ¬ Completes n N

-- no position with K completes the pair
pub record Nogood (K : ℕ → Type 0) (n : State) : Type 0 where
  pub avoided : (N : ℕ) → K N → Avoids n N

-- two pairs without atom a, of which the first has it up and the second dropped
abbrev pub resolvent : State → State → ℕ → State
resolvent first second a = record {
  up = (first.up ∖ atom a) ∪ second.up;
  dropped = first.dropped ∪ (second.dropped ∖ atom a);
}

-- who avoids both pairs avoids this one
pub record Resolves (first second r : State) : Type 0 where
  pub avoided : (N : ℕ) → Avoids first N → Avoids second N → Avoids r N

-- the pair of two branches' pairs, of which the first has atom a in the phase: the second where it lies within the state s, and else what is left of both
pub record Merged (first second s : State) (a : ℕ) (phase : Bool) (r : State) : Type 0 where
  pub within : Within second s → r ≡ second
  pub beyond : ¬ Within second s → r ≡ elim phase [ true ↦ resolvent first second a | false ↦ resolvent second first a ]
