use Rattle.dependency_graph.proofs.Prelude.{apart, ◌∪◌, needs, units_of, monotonic_seen_in}
use Rattle.dependency_graph.proofs.Face.{few_in, holding_in}
use Rattle.dependency_graph.proofs.dependences.monotonic_seen_in.Goals as goal

pub where_holds-requires : goal.where_holds-requires
where_holds-requires c = let few = few_in _ c.first.ensures c.cut-held.ensures in search (few, needs)

pub returns : goal.returns
unfolding units_of monotonic_seen_in
returns c =
    let picked =
    holding_in c.where_holds.ensures _
    (λ r. apart ((units_of c.args.plan.now).program.positive r ∪ (units_of c.args.plan.now).program.head r) c.unseen_heads-unseen.result)
    c.first.ensures c.cut-held.ensures (λ r l b h. search needs) in
    rw c.unseen_heads-unseen.ensures at picked
