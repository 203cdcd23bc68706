-- "The whole program is all rules of the plan as one set; units and edges play no part in its answer sets."
-- "Single positions and last lists are from here on judged for rules plus given facts." (02, S-1)
use Rattle.std.specs.Prelude.{Bool, ℕ}
use Rattle.atoms.specs.Word.{below}
use Rattle.answer_sets.specs.Lent.{lent}
use Rattle.answer_sets.specs.AnswerSet.{AnswerSet}
use Rattle.answer_sets.specs.Test.{answer_set}
use Rattle.plan.specs.declared.record.Plan.{Plan}

-- the position is an answer set of the whole program
abbrev pub Settles : Plan → ℕ → Type 0
Settles p M = AnswerSet (lent p.rules) (below p.rule_count) p.once.given.word M

-- the same, computed
abbrev pub settled : Plan → ℕ → Bool
settled p M = answer_set (lent p.rules) (below p.rule_count) p.once.given.word M
