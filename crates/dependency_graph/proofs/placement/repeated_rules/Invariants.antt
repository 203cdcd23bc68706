-- What is in one unit and what is in two, unit by unit (Built).
use Rattle.dependency_graph.proofs.Prelude.{get_or, union_below, twice_below}
use Rattle.dependency_graph.proofs.Face.{Built}
use Rattle.dependency_graph.proofs.placement.repeated_rules.Given as goal

abbrev pub invariant-loop-unit : goal.invariant-loop-unit
invariant-loop-unit l =
    Built (λ k. union_below k (λ i. get_or l.fn.plan.units i 0)) l.fn.plan.unit_count l.unit-index l.once
    × Built (λ k. twice_below k (λ i. get_or l.fn.plan.units i 0)) l.fn.plan.unit_count l.unit-index l.twice
