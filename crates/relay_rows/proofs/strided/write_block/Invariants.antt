-- The first k words are written (Scattering).
use Rattle.relay_rows.proofs.Prelude.{get_or}
use Rattle.relay_rows.proofs.Face.{Scattering}
use Rattle.relay_rows.proofs.strided.write_block.Given as goal

abbrev pub invariant-loop-k : goal.invariant-loop-k
invariant-loop-k l = Scattering (λ j. get_or l.block j 0) l.at l.stride l.initial.area l.area l.k
