-- Where a search goes no further (document 02, S-7), and what the choice of the next atom says of it.
use Rattle.std.specs.Prelude.{List, ℕ, ◌<◌}
use Rattle.std.specs.declared.option.Option.{Option}
use Rattle.std.specs.declared.option.Option.TheVariants.{Some, None}
use Rattle.atoms.specs.Word.{ATOMS, Has, ◌⊆◌, Apart, ◌∖◌}
use Rattle.answer_sets.specs.Lent.{lent, negative}
use Rattle.answer_sets.specs.Known.{BodySays}
use Rattle.states.specs.declared.state.State.{State}
use Rattle.answer_sets.specs.declared.truth.Truth.TheVariants.{Holds, Fails}
use Rattle.narrowing.specs.declared.choice.Standing.{Standing}
use Rattle.narrowing.specs.declared.choice.Standing.TheVariants.{Spent, Stopped, Live}
use Rattle.narrowing.specs.declared.choice.Choice.{Choice}
use Rattle.narrowing.specs.declared.choice.Choice.TheVariants.{Atom, Stop}

-- rule r is at a stop: its "body holds and all its head atoms are dropped" ("an atom in both counts as up")
pub record AtStop (rules : List ℕ) (r : ℕ) (s : State) : Type 0 where
  pub holds : BodySays rules r s.up s.dropped Holds
  pub gone : (lent rules).head r ⊆ (s.dropped ∖ s.up)

-- no rule of the word is
pub record NoStop (rules : List ℕ) (which : ℕ) (s : State) : Type 0 where
  pub each : (r : ℕ) → Has which r → ¬ AtStop rules r s

-- what comes next: an atom of `free`, and then no rule of the word is at a stop; or a rule of the word that is
abbrev pub Chosen : List ℕ → ℕ → State → ℕ → Choice → Type 0
Chosen rules which s free (Atom i) = Has free i × (i < ATOMS) × NoStop rules which s
Chosen rules which s free (Stop r) = Has which r × AtStop rules r s

-- Inner: a rule of the word that is at a stop, or that none is
abbrev pub StopFound : List ℕ → ℕ → State → Option ℕ → Type 0
StopFound rules which s (Some r) = Has which r × AtStop rules r s
StopFound rules which s None = NoStop rules which s

-- Inner: rule r has nothing more to ask for: a head atom is up, or its body fails
pub data IsSpent (rules : List ℕ) (r : ℕ) (s : State) : Type 0 where
  head_up : ¬ Apart ((lent rules).head r) s.up → IsSpent rules r s
  body_fails : BodySays rules r s.up s.dropped Fails → IsSpent rules r s

-- Inner: rule r is live: neither spent nor at a stop
pub record IsLive (rules : List ℕ) (r : ℕ) (s : State) : Type 0 where
  pub unspent : ¬ IsSpent rules r s
  pub unstopped : ¬ AtStop rules r s

-- Inner: where rule r stands
abbrev pub Stands : List ℕ → ℕ → State → Standing → Type 0
Stands rules r s Spent = IsSpent rules r s
Stands rules r s Stopped = AtStop rules r s
Stands rules r s Live = IsLive rules r s

-- Inner: no atom of its own makes the body of rule r fail; what its tables say is not looked at
pub record Unfailed (rules : List ℕ) (r : ℕ) (s : State) : Type 0 where
  pub positive : Apart ((lent rules).positive r) s.dropped
  pub negative : Apart (negative rules r) s.up
