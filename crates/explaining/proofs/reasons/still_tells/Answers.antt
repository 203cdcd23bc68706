-- The step's result tells the goal, or not.
use Rattle.explaining.proofs.Prelude.{refl, explains_told}
use Rattle.explaining.proofs.reasons.still_tells.Goals as goal

pub returns : goal.returns
returns c e = record { about = refl; explains = explains_told c.step_again-t.ensures (c.tells.ensures.yes e) }
