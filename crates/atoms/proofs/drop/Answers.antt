-- The difference with the set of the one atom.
use Rattle.atoms.proofs.Prelude.{ap, ◌∙◌, ℕ, ◌∖◌}
use Rattle.atoms.proofs.drop.Goals as goal

pub returns : goal.returns
returns c = c.without.ensures ∙ ap (λ (x : ℕ). c.args.w ∖ x) c.single.ensures
