-- `is_empty_rule` meets its contract, test by test.
use Rattle.reading.proofs.Prelude.{eq-eqb, ne_eqb, empty_rule}
use Rattle.reading.proofs.rule.is_empty_rule.Goals as goal

pub returns-then-head-ne0 : goal.returns-then-head-ne0
unfolding empty_rule
returns-then-head-ne0 c = simp (ne_eqb _ _ c.if-head-ne0.true)

pub returns-then-positive-ne0 : goal.returns-then-positive-ne0
unfolding empty_rule
returns-then-positive-ne0 c = simp (eq-eqb _ _ c.if-head-ne0.false, ne_eqb _ _ c.if-positive-ne0.true)

pub returns : goal.returns
unfolding empty_rule
returns c = simp (eq-eqb _ _ c.if-head-ne0.false, eq-eqb _ _ c.if-positive-ne0.false)
