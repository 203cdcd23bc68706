-- The subsets of the position that have the facts are the completions of: facts up, everything outside the position dropped. What the rounds leave of
-- them is told, or asked for, and then written down where there is none.
use Rattle.answer_sets.proofs.Face.{lent_part, passed_confines, tested_passed, memo_whole, memo_written}
use Rattle.answer_sets.proofs.smaller.some_smaller_by.Goals as goal

pub returns-then-is_told-clause-tested : goal.returns-then-is_told-clause-tested
returns-then-is_told-clause-tested g c =
    rw c.none_smaller.ensures (tested_passed c.ranges.which.fits c.open_test-p.ensures (c.is_told.ensures.told c.if-is_told.true)).0

pub between-smaller-requires : goal.between-smaller-requires
between-smaller-requires g c =
    c.requires.finds.asked _ _ (lent_part c.requires.lent.0 c.open_test-p.ensures.part) (passed_confines c.open_test-p.ensures)

pub returns-then-smaller-clause-tested : goal.returns-then-smaller-clause-tested
returns-then-smaller-clause-tested g c =
    (tested_passed c.ranges.which.fits c.open_test-p.ensures (c.requires.finds.told _ _ _ c.between-smaller.ensures)).0

pub returns-then-smaller-clause-set : goal.returns-then-smaller-clause-set
returns-then-smaller-clause-set g c =
    (tested_passed c.ranges.which.fits c.open_test-p.ensures (c.requires.finds.told _ _ _ c.between-smaller.ensures)).1

pub returns-clause-tested : goal.returns-clause-tested
returns-clause-tested g c =
    (tested_passed c.ranges.which.fits c.open_test-p.ensures (c.requires.finds.told _ _ _ c.between-smaller.ensures)).0

pub returns-clause-memo : goal.returns-clause-memo
returns-clause-memo g c =
    memo_written c.write_memo.ensures
    (memo_whole c.is_told.ensures.word (passed_confines c.open_test-p.ensures)
    (c.requires.finds.told _ _ _ c.between-smaller.ensures).exactly c.if-smaller.false)
