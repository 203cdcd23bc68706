-- The test of u is membership; the predecessors' word is cut to the units there are.
use Rattle.dependency_graph.proofs.Prelude.{◌∙◌, not-true, needs, lacks_of_test, has_of_test, units_of}
use Rattle.dependency_graph.proofs.Face.{done_not_ready, ready_of_waiting}
use Rattle.dependency_graph.proofs.working_order.is_ready.Goals as goal

pub returns-then-not-are_apart : goal.returns-then-not-are_apart
returns-then-not-are_apart c = search (done_not_ready, has_of_test, not-true, needs)

pub returns : goal.returns
unfolding units_of
returns c =
    (rw (c.cut.ensures, c.first.ensures) at c.is_subset.ensures)
    ∙ ready_of_waiting _ _ _
    (lacks_of_test _ _ c.single.ensures c.are_apart.ensures c.if-not-are_apart.false)
