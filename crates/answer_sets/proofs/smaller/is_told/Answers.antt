-- The whole position is no proper subset; and what the memo tells of a test that is like its own.
use Rattle.answer_sets.proofs.Face.{memo_none}
use Rattle.answer_sets.proofs.smaller.is_told.Goals as goal

pub returns : goal.returns
returns c = record { told = λ e. memo_none c.ranges.position.fits c.requires.1.only_whole c.memo_tells.ensures e; word = c.struct_known-1.given.0.fits }
