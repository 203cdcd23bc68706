-- No head atom is looped, or all atoms of the rule are handed back.
use Rattle.propagating.proofs.Prelude.{refl, ap₂, ◌∙◌, ◌∪◌}
use Rattle.propagating.proofs.Face.{not_looped, is_looped}
use Rattle.propagating.proofs.agenda.looped_rule.Goals as goal

pub returns-then-are_apart : goal.returns-then-are_apart
returns-then-are_apart c = record { looped = λ n. absurd (n (not_looped _ _ _ c.head-head.ensures c.are_apart.ensures c.if-are_apart.true)); none = λ a. refl }

pub returns : goal.returns
returns c = record {
  looped = λ n. c.union-2.ensures ∙ ap₂ ◌∪◌ c.head-head.ensures (c.union.ensures ∙ ap₂ ◌∪◌ c.positive_body.ensures c.looks.ensures);
  none = λ a. absurd (is_looped _ _ _ c.head-head.ensures c.are_apart.ensures c.if-are_apart.false a);
}
