-- The outcome picks the sheet.
use Rattle.plan_sheet.proofs.Prelude.{◌≡◌, ap₂, sym, ◌∙◌, refusal_sheet, answer, sheet_of}
use Rattle.reading.proofs.Limits.{all_bytes}
use Rattle.plan_sheet.proofs.Said.{sheet_says}
use Rattle.plan_sheet.proofs.PlanSheets.{sheet_refused, sheet_of_part, refused_at_most, listed_at_most}
use Rattle.plan_sheet.proofs.write_plan_sheet.Goals as goal

pub returns-in-Err : goal.returns-in-Err
returns-in-Err c =
    let handed = c.list_positions-listing.ensures.answered in
    let e : refusal_sheet c.fault_number.result c.fault_spot.result ≡ sheet_of (answer c.args.plan.now c.args.table.now) =
    ap₂ refusal_sheet c.fault_number.ensures c.fault_spot.ensures ∙ sheet_refused _ _ (sym handed.outcome_is ∙ c.in-Err.is) in
    record {
      table_is = handed.table_is;
      written_is = rw e at c.write_refusal.ensures.value;
      sheet_is = rw e at c.write_refusal.ensures.sheet_after;
      at_most = refused_at_most _ _ _ c.fault_number.type_inv c.fault_spot.type_inv e;
      says = sheet_says c.args.plan.now c.args.table.now (all_bytes c.args.plan.now (λ i. (c.type_inv.plan i).fits));
    }

pub returns : goal.returns
returns c =
    let handed = c.list_positions-listing.ensures.answered in
    let accepted = sym handed.outcome_is ∙ c.in_default.is in
    let e = sheet_of_part (answer c.args.plan.now c.args.table.now) _ _ handed.counts_are handed.table_is accepted in
    record {
      table_is = handed.table_is;
      written_is = rw e at c.write_positions.ensures.value;
      sheet_is = rw e at c.write_positions.ensures.sheet_after;
      at_most = listed_at_most _ _ accepted;
      says = sheet_says c.args.plan.now c.args.table.now (all_bytes c.args.plan.now (λ i. (c.type_inv.plan i).fits));
    }
