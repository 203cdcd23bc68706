-- The unit's rules are those that the count names.
use Rattle.unit_lists.proofs.Prelude.{refl, ap, ◌∙◌, ℕ, needs, get_or, ◌∩◌, units_of}
use Rattle.unit_lists.proofs.work.unit_at.Goals as goal

pub returns : goal.returns
unfolding units_of
returns c =
    record {
      rules_are = c.cut.ensures ∙ ap (λ (w : ℕ). get_or c.args.plan.units c.args.u 0 ∩ w) c.first.ensures;
      inputs_are = c.requires.0.heads_of.inputs_are c.args.u c.requires.1;
      predecessors_are = refl;
      near = search needs;
    }
