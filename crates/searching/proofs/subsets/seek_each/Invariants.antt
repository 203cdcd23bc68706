-- The loop carries that what it knows holds of every set that satisfies the rules, and that each atom that is done is known to be in all of them.
use Rattle.searching.proofs.Prelude.{Has, Taking, Narrows, Remembers, WiredIn}
use Rattle.searching.proofs.subsets.seek_each.Given as goal

abbrev pub invariant-loop-i : goal.invariant-loop-i
invariant-loop-i l =
    Narrows (WiredIn l.fn.cx) l.fn.s l.t × Remembers (WiredIn l.fn.cx) l.memory × Taking l.fn.position l.i-iterator.rest (Has l.t.up)
