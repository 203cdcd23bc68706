-- The graph's verdict, and unit work where it refuses nothing.
use Rattle.unit_lists.proofs.Prelude.{refl, sym, units_of, unit_work, handed_refused, unless_refused_lem, unless_accepted}
use Rattle.dependency_graph.proofs.Verdicts.{passes_of_verdict}
use Rattle.unit_lists.proofs.positions.list_read_plan.Goals as goal

pub returns-in-Err : goal.returns-in-Err
returns-in-Err c =
    let table = c.args.table.now in
    handed_refused c.in-Err.fault
    (unless_refused_lem c.in-Err.fault table (unit_work (units_of c.args.plan) table) (sym c.in-Err.ensures)) c.refuse.ensures refl

pub unit_work-requires : goal.unit_work-requires
unit_work-requires c = (
  record { fits = c.requires.0; passes = passes_of_verdict (units_of c.args.plan) (sym c.in-Ok.ensures); clean = c.requires.1 },
  c.requires.2,
)

pub returns-in-Ok : goal.returns-in-Ok
returns-in-Ok c =
    let table = c.args.table.now in
    rw (unless_accepted table (unit_work (units_of c.args.plan) table) (sym c.in-Ok.ensures)) c.unit_work.ensures
