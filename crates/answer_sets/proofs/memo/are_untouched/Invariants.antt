-- The loop takes the rules of the word: each that is done has none of the atoms.
use Rattle.answer_sets.proofs.Prelude.{ℕ, Has, Taking, InRule}
use Rattle.answer_sets.proofs.memo.are_untouched.Given as goal

abbrev pub invariant-loop-rule : goal.invariant-loop-rule
invariant-loop-rule l = Taking l.fn.which l.rule-iterator.rest (λ r. (i : ℕ) → InRule l.fn.rules r i → ¬ Has l.fn.w i)
