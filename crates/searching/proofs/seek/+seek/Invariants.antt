-- The measure is the count of undecided atoms.
use Rattle.searching.proofs.Prelude.{ones, undecided}
use Rattle.searching.proofs.seek.+seek.Given as goal

abbrev pub decreases-seek : goal.decreases-seek
decreases-seek l = ones (undecided l.node.front.state.up l.node.front.state.dropped)
