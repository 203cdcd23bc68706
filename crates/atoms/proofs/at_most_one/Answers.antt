-- An empty word, or one that is empty without its lowest atom.
use Rattle.atoms.proofs.Prelude.{needs}
use Rattle.atoms.proofs.Face.{at_most_none, decides_at_most_one}
use Rattle.atoms.proofs.Tests.{decides}
use Rattle.atoms.proofs.at_most_one.Goals as goal

pub returns-then-w-eq0 : goal.returns-then-w-eq0
returns-then-w-eq0 c = search (decides, at_most_none, needs)

pub returns : goal.returns
returns c =
    decides_at_most_one c.args.w c.lowest.result c.drop.result
    c.lowest.ensures.0.here c.drop.ensures
