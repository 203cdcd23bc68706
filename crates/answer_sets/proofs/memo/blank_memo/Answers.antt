-- Every bit is set.
use Rattle.answer_sets.proofs.Face.{blank_memo}
use Rattle.answer_sets.proofs.memo.blank_memo.Goals as goal

pub returns : goal.returns
returns c = blank_memo
