-- Either word is told by its two operations.
use Rattle.learning.proofs.Face.{resolves_equal}
use Rattle.learning.proofs.nogood.resolve.Goals as goal

pub returns : goal.returns
returns c =
    let e = resolves_equal c.args.first c.args.second c.args.atom (rw (c.union-2.ensures, c.drop-2.ensures, c.union.ensures, c.drop.ensures)) in
    record { is = e.0; resolves = e.1 }
