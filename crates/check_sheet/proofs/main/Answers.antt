-- Each comparison holds: the buffer is the sheet that the contract promises, and that computes to the bytes shown.
use Rattle.sheet.specs.Sheet.{line_end, positions_word, refused_word, at_word, places_within, places, decimal, hexadecimal, position_line, position_lines}
use Rattle.sheet.specs.Sheet.{positions_sheet, refusal_sheet}
use Rattle.sheet.specs.LentSheet.{filled}
use Rattle.check_sheet.proofs.main.Goals as goal

pub expect-requires : goal.expect-requires
unfolding line_end positions_word places_within places decimal hexadecimal position_line position_lines positions_sheet filled
expect-requires c = c.same.ensures.1 c.write_positions.ensures.sheet_after

pub expect-requires-2 : goal.expect-requires-2
unfolding line_end refused_word at_word places_within places decimal refusal_sheet filled
expect-requires-2 c = c.same-2.ensures.1 c.write_refusal.ensures.sheet_after
