-- The count of undecided atoms.
use Rattle.finding.proofs.Prelude.{ones, undecided}
use Rattle.finding.proofs.gather.+gather.Given as goal

abbrev pub decreases-gather : goal.decreases-gather
decreases-gather l = ones (undecided l.node.front.state.up l.node.front.state.dropped)
