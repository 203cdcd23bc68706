-- Questions as words: "three words to a question in the order up, dropped, count".
use Rattle.std.specs.Prelude.{◌≡◌, List, [], ◌∷◌, ◌++◌, ℕ, ◌≤◌, length, Result}
use Rattle.questions.specs.Counts.{MAX_QUESTIONS, CountsMean}
use Rattle.questions.specs.Questions.{outcome, answered}
use Rattle.questions.specs.declared.question.Question.{Question}
use Rattle.questions.specs.declared.question.TooManyQuestions.{TooManyQuestions}

-- the whole questions
unfoldable pub questions_in : List ℕ → List Question
questions_in (up ∷ dropped ∷ count ∷ words) = record { up = up; dropped = dropped; count = count } ∷ questions_in words
questions_in [] = []
questions_in (a ∷ []) = []
questions_in (a ∷ b ∷ []) = []

-- the words behind them
unfoldable pub words_behind : List ℕ → List ℕ
words_behind (up ∷ dropped ∷ count ∷ words) = words_behind words
words_behind [] = []
words_behind (a ∷ []) = a ∷ []
words_behind (a ∷ b ∷ []) = a ∷ b ∷ []

-- questions written as words
unfoldable pub in_words : List Question → List ℕ
in_words [] = []
in_words (q ∷ qs) = q.up ∷ q.dropped ∷ q.count ∷ in_words qs

-- there are n whole questions, and not too many
pub record Whole (words : List ℕ) (n : ℕ) : Type 0 where
  pub count_is : n ≡ length (questions_in words)
  pub at_most : n ≤ MAX_QUESTIONS

-- a call: what it answers, and every lent word afterwards
pub record AnsweredWords (list before after : List ℕ) (r : Result (Unit {0}) TooManyQuestions) : Type 0 where
  pub outcome_is : r ≡ outcome (questions_in before)
  pub words_are : after ≡ in_words (answered list (questions_in before)) ++ words_behind before
  pub meaning : CountsMean list
