-- `put` meets its contract: a part of the sheet is written over with the bytes.
use Rattle.sheet.proofs.Face.{put_over}
use Rattle.sheet.proofs.put.Goals as goal

pub returns : goal.returns
returns c = put_over c.requires c.copy_from_slice.ensures.after
