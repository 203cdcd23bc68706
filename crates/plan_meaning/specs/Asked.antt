-- One frame for every question to a plan as bytes: read it, refuse it with the fault that reading found, or answer of the record that was read.
use Rattle.std.specs.Prelude.{◌≡◌, List, ℕ, Ok, Err}
use Rattle.plan.specs.declared.record.Plan.{Plan}
use Rattle.plan.specs.declared.fault.Fault.{Fault}
use Rattle.plan.specs.Faults.{Accepted, Refused}
use Rattle.reading.specs.Reading.{reading}
use Rattle.plan_meaning.specs.Read.{ReadMeans}

-- by computing
unfoldable pub asked : {A : Type 0} → (Fault → A) → (Plan → A) → List ℕ → A
asked refuse answer bytes = elim (reading bytes).outcome [ Err f ↦ refuse f | Ok u ↦ answer (reading bytes).plan ]

-- and by meaning: the answer is the computed one; the fault that reading found, and otherwise one that is right of what was read, whose rules and facts
-- are those of the plan's lists
pub record Answered {A : Type 0} (refuse : Fault → A) (answer : Plan → A) (Right : Plan → A → Type 0) (bytes : List ℕ) (a : A) : Type 0 where
  pub is : a ≡ asked refuse answer bytes
  pub refused : (f : Fault) → (reading bytes).outcome ≡ Refused f → a ≡ refuse f
  pub right : (reading bytes).outcome ≡ Accepted → Right (reading bytes).plan a
  pub meaning : ReadMeans bytes
