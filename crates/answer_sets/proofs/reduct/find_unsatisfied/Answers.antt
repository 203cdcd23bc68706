use Rattle.answer_sets.proofs.Prelude.{taken_lent, taking_more, needs}
use Rattle.answer_sets.proofs.Face.{satisfies_said, satisfies_denied}
use Rattle.answer_sets.proofs.reduct.find_unsatisfied.Goals as goal

pub returns-then-not-satisfies : goal.returns-then-not-satisfies
returns-then-not-satisfies c = search (taken_lent, satisfies_denied, c.in-Some.ensures, needs)

pub loop-rule-preserved : goal.loop-rule-preserved
loop-rule-preserved c = search (taking_more, satisfies_said, c.in-Some.ensures, needs)
