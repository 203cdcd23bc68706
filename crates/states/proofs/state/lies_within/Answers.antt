-- One word is not within the other's, or the second test tells.
use Rattle.states.proofs.Prelude.{sym, ◌∙◌}
use Rattle.states.proofs.Within.{not_within, within_decided}
use Rattle.states.proofs.state.lies_within.Goals as goal

pub returns-then-not-is_subset : goal.returns-then-not-is_subset
returns-then-not-is_subset c = not_within _ _ (sym c.is_subset.ensures ∙ c.if-not-is_subset.true)

pub returns : goal.returns
returns c = within_decided _ _ (sym c.is_subset.ensures ∙ c.if-not-is_subset.false) c.is_subset-2.ensures
