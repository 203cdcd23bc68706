-- All rules without those of some unit (Offenders).
use Rattle.dependency_graph.proofs.Prelude.{units_of, rule_in_no_unit}
use Rattle.dependency_graph.proofs.placement.rule_in_no_unit.Goals as goal

pub returns : goal.returns
unfolding rule_in_no_unit units_of
returns c = rw (c.union_of-placed.ensures, c.first.ensures, c.first-2.ensures) at c.without.ensures
