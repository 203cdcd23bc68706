use Rattle.joining.proofs.Prelude.{ap, subst, ◌∙◌, ℕ, ◌<◌, Has, ◌∩◌, below, subset_trans, cut_left, cut_right, below_lt, lt_of_has}
use Rattle.joining.proofs.Prelude.{carrying_next, taken_lent, needs, MAX_UNITS}
use Rattle.joining.proofs.nearest.nearest.Goals as goal

-- the loop starts with the predecessors below MAX_UNITS
pub without_covered-near-requires : goal.without_covered-near-requires
without_covered-near-requires c =
    let started : (i : ℕ) → Has c.cut-near.result i → Has (c.args.predecessors ∩ below MAX_UNITS) i = λ i h. subst (λ (w : ℕ). Has w i)
    (c.cut-near.ensures ∙ ap (λ (w : ℕ). c.args.predecessors ∩ w) c.first.ensures) h in
    let inside : (i : ℕ) → Has c.cut-near.result i → i < MAX_UNITS =
    λ i h. below_lt MAX_UNITS (cut_right c.args.predecessors (below MAX_UNITS) (started i h)) in (
      c.requires,
      lt_of_has c.loop-v.near MAX_UNITS (λ i h. inside i (c.loop-v.invariant.fact.each i h)),
      inside _ (taken_lent c.loop-v.invariant.within c.in-Some.ensures.steps.lowest),
    )

pub loop-v-preserved : goal.loop-v-preserved
loop-v-preserved c = search (carrying_next, subset_trans, c.in-Some.ensures, needs)

pub returns : goal.returns
returns c =
    let started : (i : ℕ) → Has c.cut-near.result i → Has (c.args.predecessors ∩ below MAX_UNITS) i = λ i h. subst (λ (w : ℕ). Has w i)
    (c.cut-near.ensures ∙ ap (λ (w : ℕ). c.args.predecessors ∩ w) c.first.ensures) h in
    record { each = λ i h. cut_left c.args.predecessors (below MAX_UNITS) (started i (c.loop-v.invariant.fact.each i h)) }
