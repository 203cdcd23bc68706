-- A head atom is up already; or the body is known to hold, and one has to go up; or it is open, and `denied` tells.
use Rattle.answer_sets.proofs.Prelude.{needs}
use Rattle.answer_sets.proofs.Face.{head_met, holds_head}
use Rattle.answer_sets.proofs.rule_pass.rule_step.Goals as goal

pub returns-then-not-are_apart : goal.returns-then-not-are_apart
returns-then-not-are_apart c = search (head_met, needs)

pub returns-in-Holds : goal.returns-in-Holds
returns-in-Holds c = search (holds_head, needs)
