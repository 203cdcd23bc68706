-- `read_rule` meets its contract: at each return the tests that led there say which row of the fault table fits.
use Rattle.reading.proofs.Prelude.{le-leb, lt-leb, le-ltb, needs, sym, ◌∙◌, of_kind, contradictory, carrying}
use Rattle.reading.proofs.Face.{late_row, full_row, short_row, empty_refused, contradictory_refused}
use Rattle.reading.proofs.rule.read_rule.Goals as goal

pub returns-then-is_late : goal.returns-then-is_late
returns-then-is_late c = search (late_row, needs)

pub returns-then-rule_count-ge-MAX_RULES : goal.returns-then-rule_count-ge-MAX_RULES
returns-then-rule_count-ge-MAX_RULES c = search (full_row, le-leb, needs)

pub returns-then-operands-lt-RULE_OPERANDS : goal.returns-then-operands-lt-RULE_OPERANDS
returns-then-operands-lt-RULE_OPERANDS c = search (short_row, lt-leb, needs)

pub returns-then-is_empty_rule : goal.returns-then-is_empty_rule
returns-then-is_empty_rule c = search (empty_refused, lt-leb, needs)

pub returns-then-not-are_apart : goal.returns-then-not-are_apart
returns-then-not-are_apart c = search (contradictory_refused, lt-leb, needs)

pub returns : goal.returns
unfolding of_kind contradictory carrying
returns c =
    simp (
      sym c.is_late.ensures ∙ c.if-is_late.false,
      lt-leb _ _ c.if-rule_count-ge-MAX_RULES.false,
      le-ltb _ _ c.if-operands-lt-RULE_OPERANDS.false,
      ← c.read_word-head.ensures,
      ← c.read_word-positive.ensures,
      ← c.read_word-negative.ensures,
      sym c.is_empty_rule.ensures ∙ c.if-is_empty_rule.false,
      sym c.are_apart.ensures ∙ c.if-not-are_apart.false,
    )
