-- What a host is handed back where it asks for several positions in one call (document 02, S-8).
use Rattle.std.specs.Prelude.{◌≡◌, List, [], ◌∷◌, ℕ, length, Option, Result, Ok, Err}
use Rattle.plan.specs.Faults.{refusal_code}
use Rattle.plan.specs.declared.fault.Fault.{Fault}
use Rattle.reading.specs.Refusals.{Stopped}
use Rattle.plan_meaning.specs.Read.{ReadMeans}
use Rattle.stepping.specs.Batch.{steps, batch, batch_filled, LeastSteps}
use Rattle.exports.specs.HandedOut.{copied}
use Rattle.exports.specs.Replies.{Replied}

-- the result as one number, beside the count
abbrev pub batch_code : Result ℕ Fault → ℕ
batch_code (Ok n) = 0
batch_code (Err f) = refusal_code f

-- the lent count afterwards: the number in its first word, if there is room
abbrev pub count_in : Result ℕ Fault → List ℕ → List ℕ
count_in (Ok n) count = copied (n ∷ []) count
count_in (Err f) count = count

-- the words are those of single calls, one after the other, and behind them what was there: the least answer sets of the plan's rules with its given
-- atoms as facts behind the place, rising, and all of them where fewer than there are words; with a reading fault nothing is written
pub record BatchHanded (bytes : List ℕ) (from : Option ℕ) (found found' count count' : List ℕ) (r : ℕ) : Type 0 where
  pub replied : Replied batch_code count_in (λ p _. LeastSteps p bytes from (length found)) (batch bytes from (length found)) bytes count count' r
  pub found_are : found' ≡ batch_filled (steps bytes from (length found)) found
  pub untouched : (n s : ℕ) → Stopped bytes n s → found' ≡ found
  pub meaning : ReadMeans bytes
