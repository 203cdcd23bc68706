-- The loop carries what is promised of the front so far. The measure is how many pairs of the ring are left.
use Rattle.propagating.proofs.Prelude.{◌-◌, ◌≤◌, length, ◌≡◌, Narrows, RING}
use Rattle.propagating.specs.Context.{WiredIn, FilteredIn}
use Rattle.learning.specs.Reason.{Remembers}
use Rattle.propagating.proofs.propagate.propagate.Given as goal

abbrev pub invariant-loop-i : goal.invariant-loop-i
invariant-loop-i l =
    Narrows (WiredIn l.fn.cx) l.initial.f.state l.f.state × FilteredIn l.fn.cx l.f.state l.filter
    × Remembers (WiredIn l.fn.cx) l.memory × (length l.memory ≡ length l.initial.memory) × (l.i ≤ RING)

abbrev pub decreases-loop-i : goal.decreases-loop-i
decreases-loop-i l = RING - l.i
