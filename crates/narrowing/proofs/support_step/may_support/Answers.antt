-- It may not where another head atom is up or the body fails.
use Rattle.narrowing.proofs.Prelude.{sym, ◌∙◌, needs}
use Rattle.narrowing.proofs.Face.{not_alone, body_asked}
use Rattle.answer_sets.specs.contracts.truth.Truth.{the_type}
use denote.Enum.Bare.{differs_false}
use Rattle.narrowing.proofs.support_step.may_support.Goals as goal

pub returns-then-not-are_apart : goal.returns-then-not-are_apart
returns-then-not-are_apart c = search (not_alone, needs)

pub returns : goal.returns
returns c = body_asked _ _ _ _ _ c.body_known.ensures (λ e. differs_false the_type (search needs) _ _ (sym c.ne.ensures ∙ e))
