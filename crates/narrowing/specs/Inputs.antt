-- Inner: what the steps on rules look for: answer sets of a unit's rules, with their inputs as facts.
use Rattle.std.specs.Prelude.{List, ℕ}
use Rattle.atoms.specs.Word.{◌∩◌}
use Rattle.answer_sets.specs.AnswerSet.{AnswerSet}
use Rattle.answer_sets.specs.Lent.{lent}

-- M is an answer set of the numbered rules, with those of its atoms that are inputs as facts
pub record AnswersInputs (rules : List ℕ) (which inputs M : ℕ) : Type 0 where
  pub answer : AnswerSet (lent rules) which (M ∩ inputs) M
