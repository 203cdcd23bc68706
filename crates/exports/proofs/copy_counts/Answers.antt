use Rattle.exports.proofs.Prelude.{arith}
use Rattle.exports.proofs.CopiedCounts.{copying_more, copying_end}
use Rattle.exports.proofs.copy_counts.Goals as goal

pub loop-i-preserved : goal.loop-i-preserved
loop-i-preserved c = copying_more c.loop-i.invariant (omega arith) (omega arith)

pub returns : goal.returns
returns c = copying_end c.loop-i.invariant (omega arith)
