use Rattle.dependency_graph.proofs.Prelude.{needs, units_of, monotonic_seen_in, monotonic_unseen}
use Rattle.dependency_graph.proofs.Face.{few_below, union_over_below}
use Rattle.dependency_graph.proofs.dependences.monotonic_unseen.Goals as goal

pub union_over-seen-requires : goal.union_over-seen-requires
union_over-seen-requires c = let few = few_below c.first.ensures in search (few, needs)

pub returns : goal.returns
unfolding units_of monotonic_unseen
returns c =
    let all = union_over_below c.union_over-seen.ensures (monotonic_seen_in (units_of c.args.plan.now)) c.first.ensures (λ u l w h. search needs) in
    rw (c.first-2.ensures, all) at c.without.ensures
