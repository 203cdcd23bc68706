-- The lists of the units that are done are in the table, and the work that is left is the same (Turn).
use Rattle.unit_lists.proofs.Prelude.{◌-◌, units_of}
use Rattle.unit_lists.proofs.WorkOrder.{Turn}
use Rattle.unit_lists.proofs.work.list_units.Given as goal

abbrev pub invariant-loop : goal.invariant-loop
invariant-loop l = Turn (units_of l.plan) l.initial.table l.table l.counts l.done (l.end - l.counter)
