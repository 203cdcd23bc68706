use Rattle.dependency_graph.proofs.Prelude.{get_or, has, needs, has_is_test}
use Rattle.dependency_graph.proofs.Face.{few_below, holding_below}
use Rattle.dependency_graph.proofs.cycle.own_members.Goals as goal

pub where_holds-requires : goal.where_holds-requires
where_holds-requires c = let few = few_below c.first.ensures in search (few, needs)

pub returns : goal.returns
returns c =
    holding_below c.where_holds.ensures (λ i. has (get_or c.args.words.now i 0) i) c.first.ensures (λ i l b h. search (has_is_test, needs))
