use Rattle.pilots.proofs.Face.{told_none}
use Rattle.pilots.proofs.link.told_uses.Goals as goal

pub loop-t-init : goal.loop-t-init
loop-t-init c = told_none
