-- The loop carries that the state so far narrows the first one, that the filter has each entry that may still be joined, and that the pairs
-- stay. The measure is 193 for each undecided atom and one for each step on the agenda.
use Rattle.propagating.proofs.Prelude.{◌+◌, ◌*◌, ones, undecided, Narrows, SamePairs, weight}
use Rattle.propagating.specs.Context.{WiredIn, FilteredIn}
use Rattle.propagating.proofs.propagate.run_agenda.Given as goal

abbrev pub invariant-loop-taken : goal.invariant-loop-taken
invariant-loop-taken l = Narrows (WiredIn l.fn.cx) l.initial.t l.t × FilteredIn l.fn.cx l.t l.filter × SamePairs l.initial.memory l.memory

abbrev pub decreases-loop-taken : goal.decreases-loop-taken
decreases-loop-taken l = 193 * ones (undecided l.t.up l.t.dropped) + weight l.left
