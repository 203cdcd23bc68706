-- The test of the head picks the case of the definition.
use Rattle.blaming.proofs.Prelude.{sym, ◌∙◌}
use Rattle.blaming.proofs.Face.{headless_stays, headed_goes}
use Rattle.blaming.proofs.unless_headed.Goals as goal

pub returns-then-head-eq0 : goal.returns-then-head-eq0
returns-then-head-eq0 c = headless_stays _ _ _ (sym c.head.ensures ∙ c.if-head-eq0.true)

pub returns : goal.returns
returns c = c.drop.ensures ∙ headed_goes _ _ _ (λ e. c.if-head-eq0.false (c.head.ensures ∙ e))
