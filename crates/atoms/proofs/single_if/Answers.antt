-- By the two cases of the test.
use Rattle.atoms.proofs.Prelude.{◌∙◌}
use Rattle.atoms.proofs.Face.{single_if_true, single_if_false}
use Rattle.atoms.proofs.single_if.Goals as goal

pub returns-then-test : goal.returns-then-test
returns-then-test c = c.single.ensures ∙ single_if_true _ _ c.if-test.true

pub returns : goal.returns
returns c = single_if_false _ _ c.if-test.false
