use Rattle.answer_sets.proofs.Prelude.{needs}
use Rattle.answer_sets.proofs.Face.{uses_start, uses_lt, uses_next, uses_fail, uses_end}
use Rattle.atoms.proofs.EachAtom.{each_from}
use Rattle.answer_sets.proofs.uses.with_uses.Goals as goal

pub loop-i-init : goal.loop-i-init
loop-i-init c = search (uses_start, each_from, needs)

pub returns-then-is_failure : goal.returns-then-is_failure
returns-then-is_failure c = search (uses_fail, needs)

pub use_known-requires : goal.use_known-requires
use_known-requires c = search (uses_lt, c.in-Some.ensures, needs)

pub loop-i-preserved : goal.loop-i-preserved
loop-i-preserved c = search (uses_next, c.in-Some.ensures, needs)

pub returns : goal.returns
returns c = search (uses_end, c.in-None.ensures, needs)
