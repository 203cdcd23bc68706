-- Claims: what a step tells of a goal, through steps that keep the goal.
use Rattle.explaining.proofs.Prelude.{refl, sym, subst, ◌∙◌, List, ℕ, Heeds, Explains, Told}
use Rattle.states.specs.declared.state.State.{State}
use Rattle.explaining.specs.declared.claim.Claim.{Claim}

module _ {K : ℕ → Type 0} {memory : List ℕ} {goal : State} {c : Claim} (t : Told K memory goal c) where
  -- of the claim's own goal
  pub told_own : Told K memory c.goal c
  told_own = record { about = refl; explains = subst (λ (g : State). Explains (Heeds K memory) c.part g) (sym t.about) t.explains }

  -- and of a claim that keeps it
  pub told_on : {d : Claim} → Told K memory c.goal d → Told K memory goal d
  told_on {d} u = record {
    about = u.about ∙ t.about;
    explains = subst (λ (g : State). Explains (Heeds K memory) d.part g) t.about u.explains;
  }
