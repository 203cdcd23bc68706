-- The counts passed so far are copied (Copying).
use Rattle.exports.proofs.Prelude.{COUNTS}
use Rattle.exports.proofs.CopiedCounts.{Copying}
use Rattle.exports.proofs.copy_counts.Given as goal

abbrev pub invariant-loop-i : goal.invariant-loop-i
invariant-loop-i l = Copying COUNTS l.from l.initial.counts l.counts l.i
