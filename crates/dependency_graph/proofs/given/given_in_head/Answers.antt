use Rattle.dependency_graph.proofs.Prelude.{not, needs, apart, units_of, given_in_head}
use Rattle.dependency_graph.proofs.Face.{few_below, holding_below}
use Rattle.dependency_graph.proofs.given.given_in_head.Goals as goal

pub where_holds-requires : goal.where_holds-requires
where_holds-requires c = let few = few_below c.first.ensures in search (few, needs)

pub returns : goal.returns
unfolding units_of given_in_head
returns c =
    holding_below c.where_holds.ensures (λ r. not (apart ((units_of c.args.plan.now).program.head r) (units_of c.args.plan.now).given)) c.first.ensures
    (λ r l b h. search needs)
