-- The rule supports the atom, so its body holds and its other head atoms are not up.
use Rattle.narrowing.proofs.Prelude.{needs}
use Rattle.narrowing.proofs.Face.{held_narrows}
use Rattle.narrowing.proofs.support_step.held_by.Goals as goal

pub returns : goal.returns
returns c = search (held_narrows c.args.rules.now c.args.rule c.args.atom c.args.s, needs)
