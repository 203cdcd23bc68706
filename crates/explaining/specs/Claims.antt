-- Inner: what a step tells of a goal from a part of a state.
use Rattle.std.specs.Prelude.{◌≡◌, List, ℕ}
use Rattle.states.specs.declared.state.State.{State}
use Rattle.learning.specs.Reason.{Heeds, Explains}
use Rattle.explaining.specs.declared.claim.Claim.{Claim}

-- the claim is about this goal, and its part is a reason of it
pub record Told (K : ℕ → Type 0) (memory : List ℕ) (goal : State) (c : Claim) : Type 0 where
  pub about : c.goal ≡ goal
  pub explains : Explains (Heeds K memory) c.part goal
