-- `put_line` meets its contract: the line end stands behind the sixteen digits.
use Rattle.sheet.proofs.Prelude.{arith, rules, line_end}
use Rattle.sheet.proofs.Face.{length_hexadecimal, put_position_line}
use Rattle.sheet.proofs.put_line.Goals as goal

pub put_hexadecimal-end_at-requires : goal.put_hexadecimal-end_at-requires
put_hexadecimal-end_at-requires c = simp length_hexadecimal (omega arith)

pub put-requires : goal.put-requires
put-requires c = omega (arith, simp length_hexadecimal at c.put_hexadecimal-end_at.ensures.behind)

pub returns : goal.returns
unfolding line_end
returns c = search (put_position_line, rules)
