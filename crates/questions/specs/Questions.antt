-- The answer to a caller's questions. Document 02, S-2.
use Rattle.std.specs.Prelude.{◌≡◌, true, false, List, [], ◌∷◌, map, ℕ, ◌+◌, ◌*◌, length, ltb, Result, Ok, Err}
use Rattle.atoms.specs.Lists.{padded}
use Rattle.plan.specs.Faults.{CODE_STEP}
use Rattle.questions.specs.Counts.{MAX_QUESTIONS, fitting_count, CountsMean}
use Rattle.questions.specs.declared.counter.Asked.{Asked}
use Rattle.questions.specs.declared.question.Question.{Question}
use Rattle.questions.specs.declared.question.TooManyQuestions.{TooManyQuestions}

-- "only the count is filled in"
abbrev pub with_its_count : Question → ℕ → Question
with_its_count q count = record { up = q.up; dropped = q.dropped; count = count }

-- "Each count equals the number of listed positions that have every up atom and no dropped one"
unfoldable pub counted : List ℕ → Question → Question
counted list q = with_its_count q (fitting_count list q.up q.dropped)

-- "Errors: 17, more than 64 questions, spot 0": the number and the spot of an answer; 0 is no refusal
abbrev pub count_number : Result (Unit {0}) TooManyQuestions → ℕ
count_number (Ok filled) = 0
count_number (Err refused) = 17

abbrev pub count_spot : Result (Unit {0}) TooManyQuestions → ℕ
count_spot (Ok filled) = 0
count_spot (Err refused) = 0

-- the answer as one number, a refusal's as that of a plan
abbrev pub count_code : Result (Unit {0}) TooManyQuestions → ℕ
count_code r = CODE_STEP * count_number r + count_spot r

-- more than 64 questions are refused
unfoldable pub outcome : List Question → Result (Unit {0}) TooManyQuestions
outcome questions = elim (ltb MAX_QUESTIONS (length questions)) [ true ↦ Err (record {}) | false ↦ Ok tt ]

-- the questions afterwards: each is counted, or "nothing filled in"
unfoldable pub answered : List ℕ → List Question → List Question
answered list questions = elim (ltb MAX_QUESTIONS (length questions)) [ true ↦ questions | false ↦ map (counted list) questions ]

-- a call: what it answers, and the lent questions afterwards; the counts are numbers of places
pub record QuestionsAnswered (list : List ℕ) (before after : List Question) (r : Result (Unit {0}) TooManyQuestions) : Type 0 where
  pub outcome_is : r ≡ outcome before
  pub questions_are : after ≡ answered list before
  pub meaning : CountsMean list

-- the words of the questions, zeros behind the last
unfoldable pub asked_of : List Question → Asked
asked_of questions = record { up = padded MAX_QUESTIONS (map (λ q. q.up) questions); dropped = padded MAX_QUESTIONS (map (λ q. q.dropped) questions) }

-- the questions with these counts
unfoldable pub with_counts : List Question → List ℕ → List Question
with_counts [] counts = []
with_counts (q ∷ qs) [] = q ∷ qs
with_counts (q ∷ qs) (c ∷ cs) = with_its_count q c ∷ with_counts qs cs
