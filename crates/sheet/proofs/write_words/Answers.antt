-- `write_words` meets its contract: the four pieces are written one behind the other, if they have room.
use Rattle.sheet.proofs.Prelude.{arith, positions_word, line_end}
use Rattle.sheet.proofs.Face.{put_fills, too_short_keeps, length_positions_sheet, put_positions_sheet}
use Rattle.sheet.proofs.write_words.Goals as goal

pub returns-then-sheet-head : goal.returns-then-sheet-head
returns-then-sheet-head c =
    let told = too_short_keeps _ _ (simp length_positions_sheet (omega arith)) in
    record { value = told.0; sheet_after = told.1 }

pub returns-then-sheet-head-2 : goal.returns-then-sheet-head-2
returns-then-sheet-head-2 c =
    let told = too_short_keeps _ _ (simp length_positions_sheet (omega arith)) in
    record { value = told.0; sheet_after = told.1 }

pub returns : goal.returns
unfolding positions_word line_end
returns c =
    let told =
    put_fills (simp length_positions_sheet (omega arith))
    (put_positions_sheet c.args.words.now c.put-count_at.ensures c.put_decimal-end_at.ensures c.put-lines_at.ensures c.put_lines.ensures) in
    record { value = told.0; sheet_after = told.1 }
