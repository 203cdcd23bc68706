use Rattle.finding.proofs.Prelude.{needs}
use Rattle.finding.proofs.Face.{held_start, held_step, held_end, lent_some}
use Rattle.atoms.proofs.EachAtom.{each_of}
use Rattle.finding.proofs.few.few_constraints.Goals as goal

pub loop-c-init : goal.loop-c-init
loop-c-init c = search (held_start, each_of, needs)

pub try_without-held-requires : goal.try_without-held-requires
try_without-held-requires c = search (lent_some, c.in-Some.ensures, needs)

pub loop-c-preserved : goal.loop-c-preserved
loop-c-preserved c = search (held_step, c.in-Some.ensures, needs)

pub returns : goal.returns
returns c = search (held_end, needs)
