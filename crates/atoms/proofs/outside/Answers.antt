-- The difference of all atoms and the word.
use Rattle.atoms.proofs.Prelude.{ap, ◌∙◌, ℕ, ◌∖◌, outside}
use Rattle.atoms.proofs.outside.Goals as goal

pub returns : goal.returns
unfolding outside
returns c = c.without.ensures ∙ ap (λ (x : ℕ). x ∖ c.args.w) c.first.ensures
