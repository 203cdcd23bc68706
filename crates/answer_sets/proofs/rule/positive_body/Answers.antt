-- The second word of the rule.
use Rattle.answer_sets.proofs.Prelude.{needs, lent}
use Rattle.answer_sets.proofs.rule.positive_body.Goals as goal

pub returns : goal.returns
unfolding lent
returns c = search needs
