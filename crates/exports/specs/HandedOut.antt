-- What a host is handed back: numbers, and its own lent words and bytes; and what demands 1 to 3 say of them.
use Rattle.std.specs.Prelude.{◌≡◌, ◌↔◌, List, [], ◌∷◌, ◌++◌, ℕ, ◌+◌, ◌*◌, ◌≤◌, length, take, drop, replicate, Ok, Err}
use Rattle.plan.specs.Limits.{TABLE_WORDS}
use Rattle.plan.specs.Faults.{Accepted, Outcome}
use Rattle.plan.specs.Faults.{CODE_STEP, refusal_code}
use Rattle.reading.specs.Layout.{Contents, Lays}
use Rattle.reading.specs.Refusals.{Stopped}
use Rattle.plan_meaning.specs.AnswerSets.{PlanAnswerSet}
use Rattle.judge.specs.Answers.{judged, judge_code}
use Rattle.demands.specs.Answer.{answer}
use Rattle.demands.specs.Demand1.{FirstFault}
use Rattle.demands.specs.Promised.{Promised}
use Rattle.demands.specs.declared.listing.Listing.{Listing}
use Rattle.sheet.specs.LentSheet.{bytes_written as written, filled}
use Rattle.plan_sheet.specs.PlanSheets.{SHEET_BYTES, SheetSays, written_bytes, plan_sheet}
use Rattle.questions.specs.Counts.{CountsMean}
use Rattle.questions.specs.Questions.{outcome, count_code, answered}
use Rattle.questions.specs.QuestionWords.{questions_in, in_words, words_behind}
use Rattle.questions.specs.Common.{CommonAtoms}
use Rattle.questions.specs.declared.common.Common.{Common}

-- the outcome of a listing as one number
abbrev pub outcome_code : Outcome → ℕ
outcome_code (Ok u) = 0
outcome_code (Err f) = refusal_code f

-- the lent counts afterwards: as many counts as there is room for, and behind them the words that were there
unfoldable pub copied : List ℕ → List ℕ → List ℕ
copied from counts = take (length counts) from ++ drop (length from) counts

-- A listing: code, table and counts are the answer's. Demands 1 to 3 hold of it: 0 for a plan that is listed, else the code has the number and spot of the
-- first fault
pub record ListHanded (bytes table table' counts counts' : List ℕ) (r : ℕ) : Type 0 where
  pub code_is : r ≡ outcome_code (answer bytes table).outcome
  pub table_is : table' ≡ (answer bytes table).table
  pub counts_are : counts' ≡ copied (answer bytes table).counts counts
  pub listing : Listing
  pub listing_is : (r ≡ outcome_code listing.outcome) × (counts' ≡ copied listing.counts counts)
  pub promised : Promised bytes table listing table'
  pub listed : listing.outcome ≡ Accepted → r ≡ 0
  pub refused : (n s : ℕ) → FirstFault bytes table n s → r ≡ CODE_STEP * n + s

-- A judged position: 1 exactly if it is an answer set of the rules of the plan's lists with their given atoms as facts, and otherwise 0. A reading fault by
-- its number and spot
pub record JudgeHanded (bytes : List ℕ) (position r : ℕ) : Type 0 where
  pub code_is : r ≡ judge_code (judged bytes position)
  pub settled : (c : Contents) → Lays bytes c → (r ≡ 1) ↔ PlanAnswerSet c position
  pub not_settled : (c : Contents) → Lays bytes c → (r ≡ 0) ↔ (¬ PlanAnswerSet c position)
  pub refused : (n s : ℕ) → Stopped bytes n s → r ≡ CODE_STEP * n + s

-- a sheet: its bytes where the buffer has room for all of them, and their number; SHEET_BYTES are always enough. It says what demands 1 and 3 say
pub record SheetHanded (bytes sheet sheet' : List ℕ) (r : ℕ) : Type 0 where
  pub length_is : r ≡ written_bytes (written (plan_sheet bytes) sheet)
  pub sheet_is : sheet' ≡ filled (plan_sheet bytes) sheet
  pub at_most : length (plan_sheet bytes) ≤ SHEET_BYTES
  pub says : SheetSays bytes (replicate {A = ℕ} TABLE_WORDS 0) (plan_sheet bytes)

-- questions: the answer's code, and every lent word; a rest that is no whole question is as it was; the counts are numbers of places
pub record CountHanded (list words words' : List ℕ) (r : ℕ) : Type 0 where
  pub code_is : r ≡ count_code (outcome (questions_in words))
  pub words_are : words' ≡ in_words (answered list (questions_in words)) ++ words_behind words
  pub meaning : CountsMean list

-- common atoms: the two words, as far as there is room
pub record CommonHanded (list atoms atoms' : List ℕ) (r : ℕ) : Type 0 where
  pub common : Common
  pub common_is : CommonAtoms list common
  pub atoms_are : atoms' ≡ copied (common.all ∷ common.some ∷ []) atoms
  pub code_is : r ≡ 0
