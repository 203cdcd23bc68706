-- The table, then reading, then the graph: the first fault counts.
use Rattle.unit_lists.proofs.Prelude.{refl, ap, sym, length, TableShort, handed_refused, short_answer, refused_answer, read_answer}
use Rattle.reading.specs.Reading.{ReadPlan}
use Rattle.reading.proofs.Limits.{record_fits, all_bytes}
use Rattle.demands.proofs.CleanPlan.{plan_clean}
use Rattle.demands.proofs.Promised.{promised}
use Rattle.unit_lists.proofs.positions.list_positions.Goals as goal

pub returns-then-length-lt-TABLE_WORDS : goal.returns-then-length-lt-TABLE_WORDS
returns-then-length-lt-TABLE_WORDS c =
    let bytes = all_bytes c.args.plan.now (λ i. (c.type_inv.plan i).fits) in
    let h =
    handed_refused (TableShort (length c.args.table.now)) (short_answer c.args.plan.now c.args.table.now c.if-length-lt-TABLE_WORDS.true)
    c.refuse.ensures refl in
    record { answered = h; promised = promised bytes h }

pub returns-in-Err : goal.returns-in-Err
returns-in-Err c =
    let bytes = all_bytes c.args.plan.now (λ i. (c.type_inv.plan i).fits) in
    let said = ap (λ (r : ReadPlan). r.outcome) (sym c.in-Err.ensures.read) in
    let h =
    handed_refused c.in-Err.fault
    (refused_answer c.args.plan.now c.args.table.now c.in-Err.fault c.if-length-lt-TABLE_WORDS.false said) c.refuse-in-Err.ensures refl in
    record { answered = h; promised = promised bytes h }

pub list_read_plan-requires : goal.list_read_plan-requires
list_read_plan-requires c =
    let bytes = all_bytes c.args.plan.now (λ i. (c.type_inv.plan i).fits) in
    let said = ap (λ (r : ReadPlan). r.outcome) (sym c.in-Ok.ensures.read) in
    let plan = ap (λ (r : ReadPlan). r.plan) c.in-Ok.ensures.read in
    rw plan (record_fits c.args.plan.now, plan_clean c.args.plan.now bytes said, c.if-length-lt-TABLE_WORDS.false)

pub returns-in-Ok : goal.returns-in-Ok
returns-in-Ok c =
    let bytes = all_bytes c.args.plan.now (λ i. (c.type_inv.plan i).fits) in
    let said = ap (λ (r : ReadPlan). r.outcome) (sym c.in-Ok.ensures.read) in
    let plan = ap (λ (r : ReadPlan). r.plan) c.in-Ok.ensures.read in
    let h =
    rw (← read_answer c.args.plan.now c.args.table.now c.if-length-lt-TABLE_WORDS.false said) at (rw plan at c.list_read_plan.ensures) in
    record { answered = h; promised = promised bytes h }
