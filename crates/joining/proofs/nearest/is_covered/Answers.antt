use Rattle.joining.proofs.Prelude.{needs, taken_lent, taking_more}
use Rattle.joining.proofs.CoveredUnits.{covered_here, covered_nowhere, not_within, unit_there}
use Rattle.joining.proofs.nearest.is_covered.Goals as goal

pub bounds-heads-v : goal.bounds-heads-v
bounds-heads-v c = search (unit_there, c.in-Some.ensures, needs)

pub returns-then-is_subset : goal.returns-then-is_subset
returns-then-is_subset c = search (covered_here, taken_lent, c.in-Some.ensures, needs)

pub loop-v-preserved : goal.loop-v-preserved
loop-v-preserved c = search (taking_more, not_within, c.in-Some.ensures, needs)

pub returns : goal.returns
returns c = search (covered_nowhere, needs)
