-- The loop carries that the memory keeps its promise.
use Rattle.searching.proofs.Prelude.{Remembers, WiredIn}
use Rattle.searching.proofs.dive.dive_ahead.Given as goal

abbrev pub invariant-loop : goal.invariant-loop
invariant-loop l = Remembers (WiredIn l.fn.cx) l.memory
