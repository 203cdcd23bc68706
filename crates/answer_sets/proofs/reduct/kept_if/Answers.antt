-- The body test picks the case of the definition.
use Rattle.answer_sets.proofs.Prelude.{◌∙◌, needs}
use Rattle.answer_sets.proofs.Face.{kept_if_holds, kept_if_fails}
use Rattle.answer_sets.proofs.reduct.kept_if.Goals as goal

pub returns-then-body_holds : goal.returns-then-body_holds
returns-then-body_holds c = search (kept_if_holds, needs)

pub returns : goal.returns
returns c = c.drop.ensures ∙ kept_if_fails _ _ _ c.body_holds.ensures _ c.if-body_holds.false
