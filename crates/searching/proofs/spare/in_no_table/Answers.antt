use Rattle.searching.proofs.Face.{next_table}
use Rattle.searching.proofs.spare.in_no_table.Goals as goal

pub loop-t-preserved : goal.loop-t-preserved
loop-t-preserved c = next_table c.loop-t.invariant c.word_at.ensures c.are_apart.ensures c.if-not-are_apart.false
