use Rattle.std.proofs.lemmas.List.{set-get_or}
use Rattle.atoms.proofs.Prelude.{arith, needs}
use Rattle.atoms.proofs.Face.{counting_start, counting_next, counting_none, counting_end}
use Rattle.atoms.proofs.tally.count_atoms.Goals as goal

pub loop-place-init : goal.loop-place-init
loop-place-init c = search (counting_start, needs)

pub loop-place-preserved : goal.loop-place-preserved
loop-place-preserved c = search (counting_next, needs)

pub returns-then-carried-eq0 : goal.returns-then-carried-eq0
returns-then-carried-eq0 c = rw set-get_or (search (counting_none, needs))

pub returns : goal.returns
returns c = counting_end c.loop-place.invariant (omega arith)
