use Rattle.atoms.proofs.Prelude.{needs}
use Rattle.atoms.proofs.EachAtom.{each_from}
use Rattle.atoms.proofs.GatheredWords.{gathers_start, gathers_next, gathers_end}
use Rattle.atoms.proofs.union_of.Goals as goal

pub loop-i-init : goal.loop-i-init
loop-i-init c = search (gathers_start, each_from, needs)

pub loop-i-preserved : goal.loop-i-preserved
loop-i-preserved c = search (gathers_next, c.in-Some.ensures, needs)

pub returns : goal.returns
returns c = search (gathers_end, needs)
