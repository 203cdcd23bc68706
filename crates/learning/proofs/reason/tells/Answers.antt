-- The words overlap, or the goal lies within the state or not.
use Rattle.learning.proofs.Prelude.{sym, ◌∙◌, decides_apart}
use Rattle.learning.proofs.Face.{overlap_tells, within_tells}
use Rattle.learning.proofs.reason.tells.Goals as goal

pub returns-then-not-are_apart : goal.returns-then-not-are_apart
returns-then-not-are_apart c = overlap_tells ((decides_apart _ _).no (sym c.are_apart.ensures ∙ c.if-not-are_apart.true))

pub returns : goal.returns
returns c = within_tells ((decides_apart _ _).yes (sym c.are_apart.ensures ∙ c.if-not-are_apart.false)) c.lies_within.ensures
