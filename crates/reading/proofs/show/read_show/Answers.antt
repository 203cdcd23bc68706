-- `read_show` meets its contract: at each return the tests that led there say which row of the fault table fits.
use Rattle.reading.proofs.Prelude.{sym, ◌∙◌, lt-ltb, le-ltb, of_kind, carrying}
use Rattle.reading.proofs.show.read_show.Goals as goal

pub returns-then-is_late : goal.returns-then-is_late
unfolding of_kind
returns-then-is_late c = simp (sym c.is_late.ensures ∙ c.if-is_late.true)

pub returns-then-operands-lt-SHOW_OPERANDS : goal.returns-then-operands-lt-SHOW_OPERANDS
unfolding of_kind
returns-then-operands-lt-SHOW_OPERANDS c = simp (sym c.is_late.ensures ∙ c.if-is_late.false, lt-ltb _ _ c.if-operands-lt-SHOW_OPERANDS.true)

pub returns : goal.returns
unfolding of_kind carrying
returns c =
    simp (
      sym c.is_late.ensures ∙ c.if-is_late.false,
      le-ltb _ _ c.if-operands-lt-SHOW_OPERANDS.false,
      ← c.read_word-word.ensures,
    )
