use Rattle.searching.proofs.Prelude.{taken_lt, taken_within, MAX_TABLES}
use Rattle.searching.proofs.spare.propose.Goals as goal

pub bounds-pilots-t : goal.bounds-pilots-t
bounds-pilots-t c = taken_lt MAX_TABLES c.requires c.loop-t.invariant c.in-Some.ensures.steps.0.lowest

pub loop-t-preserved : goal.loop-t-preserved
loop-t-preserved c = search (taken_within, c.in-Some.ensures.steps.0)
