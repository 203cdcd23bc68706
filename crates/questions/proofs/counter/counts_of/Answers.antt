use Rattle.questions.proofs.Prelude.{needs}
use Rattle.questions.proofs.Face.{tally_start, tally_holdable, tally_more}
use Rattle.questions.proofs.counter.counts_of.Goals as goal

pub loop-position-init : goal.loop-position-init
loop-position-init c = search (tally_start, needs)

pub hold-requires : goal.hold-requires
hold-requires c = search (tally_holdable, needs)

pub loop-position-preserved : goal.loop-position-preserved
loop-position-preserved c = search (tally_more, needs)
