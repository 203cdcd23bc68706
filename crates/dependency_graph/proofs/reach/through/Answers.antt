-- The test of unit k is membership (Singles).
use Rattle.dependency_graph.proofs.Prelude.{◌∙◌, needs, lacks_of_test, has_of_test}
use Rattle.dependency_graph.proofs.Face.{through_miss, through_hit}
use Rattle.dependency_graph.proofs.reach.through.Goals as goal

pub returns-then-are_apart : goal.returns-then-are_apart
returns-then-are_apart c = search (through_miss, lacks_of_test, needs)

pub returns : goal.returns
returns c =
    c.union.ensures
    ∙ through_hit _ _ _ (has_of_test _ _ c.single.ensures c.are_apart.ensures c.if-are_apart.false)
