-- Inner: positions that are like the place from an atom on, and how far they reach.
use Rattle.std.specs.Prelude.{List, ℕ, ◌^◌, ◌<◌, Option}
use Rattle.atoms.specs.Word.{ATOMS, ◌∩◌, ◌∪◌, ◌∖◌, outside, below}
use Rattle.states.specs.State.{Completes, undecided}
use Rattle.states.specs.declared.state.State.{State}
use Rattle.propagating.specs.declared.unit.Job.{Job}
use Rattle.finding.specs.Whole.{hidden_of}
use Rattle.finding.specs.Least.{Behind}
use Rattle.finding.specs.Gather.{Added, Due, dark_of}
use Rattle.finding.specs.declared.near.Reached.{Reached}

-- the state with the atoms of H as they are in p
abbrev pub like_of : State → ℕ → ℕ → State
like_of s H p = record { up = s.up ∪ (H ∩ p); dropped = s.dropped ∪ (H ∖ p) }

-- the undecided atoms from b on that are not hidden
abbrev pub high_free : State → ℕ → ℕ → ℕ
high_free s X b = undecided (dark_of s X).up (dark_of s X).dropped ∖ below b

-- the greatest position without hidden atoms that is like p in H
abbrev pub last_like : State → ℕ → ℕ → ℕ → ℕ
last_like s X H p = outside (like_of (dark_of s X) H p).dropped

-- p completes the state without pilots, and all that is behind the place is above p
pub record PlaceAt (unit : Job) (facts : ℕ) (from : Option ℕ) (s : State) (p : ℕ) : Type 0 where
  pub word : p < 2 ^ ATOMS
  pub completes : Completes (dark_of s (hidden_of unit facts)) p
  pub low : (M : ℕ) → Behind from M → p < M

-- what is behind the second place is behind the first
pub record Further (from to : Option ℕ) : Type 0 where
  pub each : (M : ℕ) → Behind to M → Behind from M

-- due behind the first place, and not behind the second
pub record BetweenPlaces (rules desk : List ℕ) (unit : Job) (facts : ℕ) (from to : Option ℕ) (passed : List ℕ) (s : State) (M : ℕ) : Type 0 where
  pub due : Due rules desk unit facts from passed s M
  pub reached : ¬ Behind to M

-- the words from `count` on are the least that are due, up to a further place
pub record Reaches (rules desk : List ℕ) (unit : Job) (facts : ℕ) (from : Option ℕ) (passed : List ℕ) (s : State) (before : List ℕ) (count : ℕ)
    (after : List ℕ) (r : Reached) : Type 0 where
  pub added : Added (BetweenPlaces rules desk unit facts from r.from passed s) before count after r.count
  pub further : Further from r.from
