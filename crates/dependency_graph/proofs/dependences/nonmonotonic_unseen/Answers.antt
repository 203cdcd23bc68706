use Rattle.dependency_graph.proofs.Prelude.{needs, units_of, nonmonotonic_unseen_in, nonmonotonic_unseen}
use Rattle.dependency_graph.proofs.Face.{few_below, union_over_below}
use Rattle.dependency_graph.proofs.dependences.nonmonotonic_unseen.Goals as goal

pub union_over-requires : goal.union_over-requires
union_over-requires c = let few = few_below c.first.ensures in search (few, needs)

pub returns : goal.returns
unfolding units_of nonmonotonic_unseen
returns c = union_over_below c.union_over.ensures (nonmonotonic_unseen_in (units_of c.args.plan.now)) c.first.ensures (λ u l w h. search needs)
