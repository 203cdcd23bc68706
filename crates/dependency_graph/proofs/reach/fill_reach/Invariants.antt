-- After k turns the table has the paths whose middle units are below k: Warshall's recursion.
use Rattle.dependency_graph.proofs.Prelude.{◌≤◌, reach_via, units_of, FilledFirst}
use Rattle.dependency_graph.proofs.reach.fill_reach.Given as goal

abbrev pub invariant-loop-k : goal.invariant-loop-k
invariant-loop-k l = FilledFirst l.plan.unit_count (reach_via (units_of l.plan) l.k) l.initial.table l.table × (l.k ≤ l.plan.unit_count)
