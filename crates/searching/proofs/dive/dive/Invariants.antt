-- The loop carries that the memory keeps its promise and that the filter has each entry that may be joined. The measure is how many atoms are
-- undecided.
use Rattle.searching.proofs.Prelude.{ones, undecided, Remembers, FilteredIn, WiredIn}
use Rattle.searching.proofs.dive.dive.Given as goal

abbrev pub invariant-loop-above : goal.invariant-loop-above
invariant-loop-above l =
    FilteredIn l.fn.cx l.f.state l.mine × Remembers (WiredIn l.fn.cx) l.memory

abbrev pub decreases-loop-above : goal.decreases-loop-above
decreases-loop-above l = ones (undecided l.f.state.up l.f.state.dropped)
