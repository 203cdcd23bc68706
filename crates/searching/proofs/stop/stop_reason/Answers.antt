-- Who completes the reason completes everything, and nobody does.
use Rattle.searching.proofs.Prelude.{overlap_nogood, reason_nogood}
use Rattle.searching.proofs.stop.stop_reason.Goals as goal

pub returns-then-at-ge-STEPS : goal.returns-then-at-ge-STEPS
returns-then-at-ge-STEPS c = overlap_nogood c.everything.ensures.overlaps

pub returns : goal.returns
returns c = reason_nogood c.requires c.explain.ensures c.everything-goal.ensures.overlaps
