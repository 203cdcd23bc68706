-- What was read of a plan's bytes means what its lists say: the record, and which positions are settled.
use Rattle.std.specs.Prelude.{◌↔◌, List, ℕ}
use Rattle.reading.specs.Layout.{Contents, Lays, record_of}
use Rattle.reading.specs.Reading.{reading}
use Rattle.plan_meaning.specs.Meaning.{Means}
use Rattle.plan_meaning.specs.AnswerSets.{PlanAnswerSet}
use Rattle.plan_meaning.specs.Settled.{Settles}

-- a position settles, by the record of the lists or by what was read, exactly if it is an answer set of the lists' rules plus given facts
pub record ReadMeans (bytes : List ℕ) : Type 0 where
  pub means : (c : Contents) → Lays bytes c → Means c (reading bytes).plan
  pub of_lists : (c : Contents) → Lays bytes c → (M : ℕ) → Settles (record_of c) M ↔ PlanAnswerSet c M
  pub of_read : (c : Contents) → Lays bytes c → (M : ℕ) → Settles (reading bytes).plan M ↔ PlanAnswerSet c M
