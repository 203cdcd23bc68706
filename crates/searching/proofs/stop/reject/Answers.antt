-- What is noted leaves the pairs as they are.
use Rattle.searching.proofs.Prelude.{remembers_same, overlap_nogood}
use Rattle.searching.proofs.stop.reject.Goals as goal

pub returns-then-x-eq0-clause-nogood : goal.returns-then-x-eq0-clause-nogood
returns-then-x-eq0-clause-nogood c = overlap_nogood c.everything.ensures.overlaps

pub stop-requires : goal.stop-requires
stop-requires c = remembers_same (remembers_same c.requires c.note_unfounded.ensures.same) c.note_step-top.ensures.same
