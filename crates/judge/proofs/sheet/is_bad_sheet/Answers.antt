-- `is_bad_sheet` meets its contract, test by test.
use Rattle.judge.proofs.Prelude.{sym, ◌∙◌, lt-ltb}
use Rattle.judge.proofs.Face.{bad_over, bad_rest}
use Rattle.judge.proofs.sheet.is_bad_sheet.Goals as goal

pub returns-then-bytes-gt-MAX_POSITIONS : goal.returns-then-bytes-gt-MAX_POSITIONS
returns-then-bytes-gt-MAX_POSITIONS c =
    lt-ltb _ _ c.if-bytes-gt-MAX_POSITIONS.true ∙ sym (bad_over _ c.if-bytes-gt-MAX_POSITIONS.true)

pub returns-else-bytes-gt-MAX_POSITIONS : goal.returns-else-bytes-gt-MAX_POSITIONS
returns-else-bytes-gt-MAX_POSITIONS c = sym (bad_rest _ c.if-bytes-gt-MAX_POSITIONS.false)
