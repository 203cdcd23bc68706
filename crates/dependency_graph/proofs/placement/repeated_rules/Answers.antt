use Rattle.std.proofs.Common.{◌<◌, ◌≤◌, ℕ, arith, length-take, get_or-take}
use Rattle.dependency_graph.proofs.Prelude.{needs, units_of}
use Rattle.dependency_graph.proofs.Face.{built_end, union_start, union_more, twice_start, twice_more}
use Rattle.dependency_graph.proofs.placement.repeated_rules.Goals as goal

pub loop-unit-init : goal.loop-unit-init
loop-unit-init c = search (union_start, twice_start, needs)

pub loop-unit-preserved : goal.loop-unit-preserved
loop-unit-preserved c =
    let few : c.loop-unit.unit-index < c.args.plan.now.unit_count = omega (arith, length-take {A = ℕ}) in
    let word = get_or-take c.args.plan.now.unit_count c.args.plan.now.units c.loop-unit.unit-index 0 few in (
      union_more _ c.loop-unit.invariant.0 few word c.union-once.ensures,
      twice_more _ c.loop-unit.invariant.0 c.loop-unit.invariant.1 few (rw word at c.cut.ensures) c.union-twice.ensures,
    )

pub returns : goal.returns
unfolding units_of
returns c =
    let all : c.args.plan.now.unit_count ≤ c.loop-unit.unit-index = omega (arith, length-take {A = ℕ}) in
    built_end c.loop-unit.invariant.1 all
