-- The sheet is the one that `write_plan_sheet` promises for a table of zeros.
use Rattle.exports.proofs.Prelude.{ap, ◌∙◌}
use Rattle.plan_sheet.specs.PlanSheets.{written_bytes, plan_sheet}
use Rattle.exports.proofs.lucarnecress_sheet.Goals as goal

pub returns : goal.returns
unfolding plan_sheet
returns c =
    record {
      length_is = c.written_bytes.ensures ∙ ap written_bytes c.write_plan_sheet.ensures.written_is;
      sheet_is = c.write_plan_sheet.ensures.sheet_is;
      at_most = c.write_plan_sheet.ensures.at_most;
      says = c.write_plan_sheet.ensures.says;
    }
