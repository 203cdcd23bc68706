-- The test at the numbers of the rules that are there, from a memo that says nothing.
use Rattle.answer_sets.proofs.position.has_smaller.Goals as goal

pub some_smaller-requires : goal.some_smaller-requires
some_smaller-requires c = (c.lent_numbers-numbers.ensures.1, c.blank_memo-memo.ensures.memo _)
