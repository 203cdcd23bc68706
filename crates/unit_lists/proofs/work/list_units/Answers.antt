use Rattle.unit_lists.proofs.Prelude.{◌≡◌, ◌+◌, ◌-◌, ◌≤◌, suc, arith, units_of, next_unit}
use Rattle.unit_lists.proofs.WorkOrder.{turn_start, turn_there, turn_next, turn_too_long, turn_stop, turn_end}
use Rattle.unit_lists.proofs.work.list_units.Goals as goal

pub loop-init : goal.loop-init
unfolding units_of
loop-init c = turn_start c.requires.0.workable.passes.acyclic c.requires.1 (omega arith)

pub returns-in_default : goal.returns-in_default
unfolding units_of
returns-in_default c =
    let none : c.args.plan.unit_count ≤ next_unit (units_of c.args.plan) c.loop.done = omega (arith, c.in_default.ensures) in
    turn_stop c.loop.invariant none

pub list_unit-requires : goal.list_unit-requires
unfolding units_of
list_unit-requires c =
    let u = c.in-Some.ensures in
    (c.requires.0, u.0, turn_there c.loop.invariant u.1 u.0)

pub returns-then-not-list_unit : goal.returns-then-not-list_unit
unfolding units_of
returns-then-not-list_unit c =
    let u = c.in-Some.ensures in
    let one : c.args.plan.unit_count - c.loop.counter ≡ suc (c.args.plan.unit_count - (c.loop.counter + 1)) = omega arith in
    turn_too_long c.loop.invariant u.1 u.0 c.list_unit.ensures _ one c.if-not-list_unit.true

pub loop-preserved : goal.loop-preserved
unfolding units_of
loop-preserved c =
    let u = c.in-Some.ensures in
    let one : c.args.plan.unit_count - c.loop.counter ≡ suc (c.args.plan.unit_count - (c.loop.counter + 1)) = omega arith in
    rw (c.union-done.ensures, c.single.ensures) (turn_next c.loop.invariant u.1 u.0 c.list_unit.ensures _ one c.if-not-list_unit.false)

pub returns : goal.returns
returns c = turn_end c.loop.invariant (omega arith)
