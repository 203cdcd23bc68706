use Rattle.dependency_graph.proofs.Prelude.{not, eqb, needs, units_of}
use Rattle.dependency_graph.proofs.Face.{few_below, holding_below}
use Rattle.dependency_graph.proofs.placement.headed_rules.Goals as goal

pub where_holds-requires : goal.where_holds-requires
where_holds-requires c = let few = few_below c.first.ensures in search (few, needs)

pub returns : goal.returns
unfolding units_of
returns c =
    holding_below c.where_holds.ensures (λ r. not (eqb ((units_of c.args.plan.now).program.head r) 0)) c.first.ensures (λ r l b h. search needs)
