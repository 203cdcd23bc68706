-- Inner: a member that was met.
use Rattle.std.specs.Prelude.{◌≡◌, Bool, false, ℕ, eqb, Option, None, Some}
use mathlib.Core.List.{List, [], Memᴰ}

-- a wanted position, or that there is none
pub data Witnessed (Wanted : ℕ → Type 0) : Option ℕ → Type 0 where
  met : {M : ℕ} → Wanted M → Witnessed Wanted (Some M)
  none : ((M : ℕ) → ¬ Wanted M) → Witnessed Wanted None

-- one of the positions that were met, or that there is none of them
pub data Shows (met : List ℕ) : Option ℕ → Type 0 where
  one : {M : ℕ} → Memᴰ M met → Shows met (Some M)
  nobody : met ≡ [] → Shows met None

-- one was met
pub record Met (w : Option ℕ) : Type 0 where
  pub member : ℕ
  pub is : w ≡ Some member

-- one was met, and nothing is left
abbrev pub enough : Option ℕ → ℕ → Bool
enough (Some M) left = eqb left 0
enough None left = false
