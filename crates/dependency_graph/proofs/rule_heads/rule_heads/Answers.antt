use Rattle.dependency_graph.proofs.Prelude.{needs, units_of}
use Rattle.dependency_graph.proofs.Face.{few_in, union_over_in}
use Rattle.dependency_graph.proofs.rule_heads.rule_heads.Goals as goal

pub union_over-requires : goal.union_over-requires
union_over-requires c = let few = few_in _ c.first.ensures c.cut-rules.ensures in search (few, needs)

pub returns : goal.returns
unfolding units_of
returns c =
    union_over_in c.union_over.ensures c.args.which (units_of c.args.plan.now).program.head c.first.ensures c.cut-rules.ensures (λ r l w h. search needs)
