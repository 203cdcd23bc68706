-- The counts are all 0.
use Rattle.demands.proofs.Prelude.{needs, refusal, no_counts_of}
use Rattle.demands.proofs.listing.refuse.Goals as goal

pub returns : goal.returns
unfolding refusal no_counts_of
returns c = search needs
