-- Several positions in one call (document 02, S-8: "One position after the other"): from each to the next, as often as there are words.
use Rattle.std.specs.Prelude.{◌≡◌, List, [], ◌∷◌, ◌++◌, ℕ, zero, suc, length, drop, Option, None, Some, Result, Ok, Err}
use Rattle.plan.specs.declared.record.Plan.{Plan}
use Rattle.plan.specs.declared.fault.Fault.{Fault}
use Rattle.plan.specs.Faults.{Refused as RefusedWith}
use Rattle.reading.specs.Reading.{reading}
use Rattle.plan_meaning.specs.Settled.{Settles}
use Rattle.plan_meaning.specs.Asked.{asked, Answered}
use Rattle.finding.specs.Least.{Behind, Leasts}
use Rattle.stepping.specs.Followed.{followed}

-- from each position to the next, at most n times
unfoldable pub steps : List ℕ → Option ℕ → ℕ → List ℕ
steps bytes from zero = []
steps bytes from (suc n) = elim (followed bytes from) [ Ok (Some M) ↦ M ∷ steps bytes (Some M) n | Ok None ↦ [] | Err f ↦ [] ]

-- the place behind these positions
abbrev pub place_after : Option ℕ → List ℕ → Option ℕ
place_after from [] = from
place_after from (M ∷ Ms) = place_after (Some M) Ms

-- the fault that reading found, or how many positions there are
abbrev pub batch : List ℕ → Option ℕ → ℕ → Result ℕ Fault
batch bytes from n = asked Err (λ _. Ok (length (steps bytes from n))) bytes

-- the lent words afterwards: the positions, and behind them what was there
abbrev pub batch_filled : List ℕ → List ℕ → List ℕ
batch_filled xs words = xs ++ drop (length xs) words

-- so many single calls find the least answer sets of the whole program behind the place
abbrev pub LeastSteps : Plan → List ℕ → Option ℕ → ℕ → Type 0
LeastSteps p bytes from n = Leasts (λ M. Settles p M × Behind from M) n (steps bytes from n)

-- the result and the words are those; the fault that reading found, and then nothing is written; and otherwise the words are the least answer sets of
-- the whole program behind the place, whose rules and facts are those of the plan's lists, rising, and all of them where fewer than there are words
pub record Stepped (bytes : List ℕ) (from : Option ℕ) (words words' : List ℕ) (r : Result ℕ Fault) : Type 0 where
  pub answered : Answered Err (λ _. Ok (length (steps bytes from (length words)))) (λ p _. LeastSteps p bytes from (length words)) bytes r
  pub words_are : words' ≡ batch_filled (steps bytes from (length words)) words
  pub untouched : (f : Fault) → (reading bytes).outcome ≡ RefusedWith f → words' ≡ words
