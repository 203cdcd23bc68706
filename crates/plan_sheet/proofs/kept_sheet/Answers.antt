-- The part of the area that was read is kept, and the buffer has room for every sheet.
use Rattle.plan_sheet.proofs.Prelude.{needs}
use Rattle.plan_sheet.proofs.Kept.{sheet_kept}
use Rattle.plan_sheet.proofs.kept_sheet.Goals as goal

pub returns : goal.returns
returns c = search (sheet_kept, needs)
