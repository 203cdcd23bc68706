-- `read_end` meets its contract: END has no operands, so nothing but a wrong COUNT and a byte behind it stops it.
use Rattle.reading.proofs.Prelude.{sym, ◌∙◌, leb-suc-zero, lt-ltb, le-ltb, of_kind, carrying}
use Rattle.reading.proofs.CommandKinds.{end_in_time}
use Rattle.reading.proofs.end.read_end.Goals as goal

pub returns-then-is_miscounted : goal.returns-then-is_miscounted
unfolding of_kind
returns-then-is_miscounted c = simp (end_in_time, leb-suc-zero, sym c.is_miscounted.ensures ∙ c.if-is_miscounted.true)

pub returns-then-operands-gt0 : goal.returns-then-operands-gt0
unfolding of_kind
returns-then-operands-gt0 c = simp (end_in_time, leb-suc-zero, sym c.is_miscounted.ensures ∙ c.if-is_miscounted.false, lt-ltb _ _ c.if-operands-gt0.true)

pub returns : goal.returns
unfolding of_kind carrying
returns c = simp (end_in_time, leb-suc-zero, sym c.is_miscounted.ensures ∙ c.if-is_miscounted.false, le-ltb _ _ c.if-operands-gt0.false)
