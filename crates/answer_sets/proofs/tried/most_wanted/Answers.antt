use Rattle.answer_sets.proofs.Prelude.{needs}
use Rattle.atoms.proofs.Counts.{taken_within}
use Rattle.answer_sets.proofs.tried.most_wanted.Goals as goal

pub loop-rule-preserved : goal.loop-rule-preserved
loop-rule-preserved c = search (taken_within, c.in-Some.ensures, needs)
