-- The front of the branch, and the position if it lies there.
use Rattle.finding.proofs.Face.{descended}
use Rattle.finding.proofs.gather.descend.Goals as goal

pub returns : goal.returns
returns c =
    descended c.args.f.state c.args.k c.args.phase c.requires.0 c.requires.1 c.requires.3 c.step_down-front.ensures.narrows
    c.step_down-front.ensures.remembers (rw c.without.ensures at c.dark_of-dark.ensures) c.kept.ensures
