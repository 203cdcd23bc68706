-- The measure is the count of undecided atoms.
use Rattle.searching.proofs.Prelude.{ones, undecided}
use Rattle.searching.proofs.search.+explore.Given as goal

abbrev pub decreases-explore : goal.decreases-explore
decreases-explore l = ones (undecided l.node.front.state.up l.node.front.state.dropped)
