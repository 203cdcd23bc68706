use Rattle.searching.proofs.Prelude.{taken_within}
use Rattle.searching.proofs.spare.all_atoms.Goals as goal

pub loop-rule-preserved : goal.loop-rule-preserved
loop-rule-preserved c = search (taken_within, c.in-Some.ensures)
