-- No atom is in the way exactly if the position fits.
use Rattle.questions.proofs.Prelude.{ap, ap₂, ◌∙◌, ℕ, eqb, ◌∪◌, one}
use Rattle.questions.proofs.QuestionCounts.{fits_test, byte_is_one}
use Rattle.questions.proofs.counter.one_if_fits.Goals as goal

pub returns : goal.returns
returns c =
    c.from.ensures
    ∙ byte_is_one (eqb c.union-amiss.result 0)
    ∙ ap one (ap (λ (word : ℕ). eqb word 0) (c.union-amiss.ensures ∙ ap₂ ◌∪◌ c.without.ensures c.cut.ensures))
    ∙ ap one (fits_test c.args.up c.args.dropped c.args.position)
