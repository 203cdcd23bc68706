-- `write_refusal` meets its contract: the five pieces are written one behind the other, if they have room.
use Rattle.sheet.proofs.Prelude.{arith, refused_word, at_word, line_end}
use Rattle.sheet.proofs.Face.{put_fills, too_short_keeps, length_refusal_sheet, put_refusal_sheet}
use Rattle.sheet.proofs.write_refusal.Goals as goal

pub returns-then-sheet-decimal_length : goal.returns-then-sheet-decimal_length
returns-then-sheet-decimal_length c =
    let told = too_short_keeps _ _ (simp length_refusal_sheet (omega arith)) in
    record { value = told.0; sheet_after = told.1 }

pub returns : goal.returns
unfolding refused_word at_word line_end
returns c =
    let told =
    put_fills (simp length_refusal_sheet (omega arith))
    (put_refusal_sheet c.args.number c.args.spot c.put-number_at.ensures c.put_decimal-word_at.ensures c.put-spot_at.ensures
    c.put_decimal-end_at.ensures c.put.ensures) in
    record { value = told.0; sheet_after = told.1 }
