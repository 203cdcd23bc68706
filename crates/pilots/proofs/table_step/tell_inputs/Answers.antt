-- No row is left; or those that are tell of the inputs.
use Rattle.pilots.proofs.Prelude.{needs}
use Rattle.pilots.proofs.Face.{none_left, inputs_told}
use Rattle.pilots.proofs.table_step.tell_inputs.Goals as goal

pub returns-then-left-eq0 : goal.returns-then-left-eq0
returns-then-left-eq0 c = search (none_left, needs)

pub returns : goal.returns
returns c = search (inputs_told, needs)
