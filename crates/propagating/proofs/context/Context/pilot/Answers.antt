-- A pilot stands behind the index.
use Rattle.propagating.proofs.Face.{pilot_at}
use Rattle.propagating.proofs.context.Context.pilot.Goals as goal

pub returns : goal.returns
returns c = pilot_at c.args.self.now.desk.now c.args.t c.requires
