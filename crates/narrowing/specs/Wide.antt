-- Inner: rules with a wide head, which say in which phase an atom is tried first. Either phase is right.
use Rattle.std.specs.Prelude.{List, ℕ, ◌≤◌}
use Rattle.std.specs.Int.Count.{ones}
use Rattle.atoms.specs.Word.{Has, ◌∖◌}
use Rattle.answer_sets.specs.Lent.{lent}
use Rattle.states.specs.declared.state.State.{State}
use Rattle.narrowing.specs.declared.choice.Standing.TheVariants.{Live}
use Rattle.narrowing.specs.Stops.{Stands}

-- a head is wide with this many atoms left
abbrev pub WIDE : ℕ
WIDE = 3

-- rule r is live and has a wide head
pub record IsWide (rules : List ℕ) (r : ℕ) (s : State) : Type 0 where
  pub live : Stands rules r s Live
  pub wide : WIDE ≤ ones ((lent rules).head r ∖ s.dropped)

-- some rule of the word is so
pub record SomeWide (rules : List ℕ) (which : ℕ) (s : State) : Type 0 where
  pub rule : ℕ
  pub numbered : Has which rule
  pub is_wide : IsWide rules rule s
