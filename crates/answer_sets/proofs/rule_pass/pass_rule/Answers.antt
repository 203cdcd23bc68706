-- A head atom is up, or the body fails: the rule goes. Else its step is taken.
use Rattle.answer_sets.proofs.Prelude.{needs}
use Rattle.answer_sets.proofs.Face.{met_by_head, met_by_body, sifted_met, sifted_on}
use Rattle.answer_sets.proofs.rule_pass.pass_rule.Goals as goal

pub returns-then-not-are_apart : goal.returns-then-not-are_apart
returns-then-not-are_apart c = search (sifted_met, met_by_head, needs)

pub returns-in-Holds : goal.returns-in-Holds
returns-in-Holds c = search (sifted_on, needs)

pub returns-in-Fails : goal.returns-in-Fails
returns-in-Fails c = search (sifted_met, met_by_body, needs)

pub returns-in-Open : goal.returns-in-Open
returns-in-Open c = search (sifted_on, needs)
