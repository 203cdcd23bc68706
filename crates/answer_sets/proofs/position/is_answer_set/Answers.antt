-- The same, from a memo that says nothing.
use Rattle.answer_sets.proofs.position.is_answer_set.Goals as goal

pub judge_set-requires : goal.judge_set-requires
judge_set-requires c = (c.requires, c.blank_memo-memo.ensures.memo _)
