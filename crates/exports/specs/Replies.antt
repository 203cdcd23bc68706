-- One frame for what a host is handed back of a question to a plan: a code and lent words.
use Rattle.std.specs.Prelude.{◌≡◌, List, ℕ, ◌+◌, ◌*◌}
use Rattle.plan.specs.Faults.{CODE_STEP}
use Rattle.plan.specs.declared.record.Plan.{Plan}
use Rattle.reading.specs.Layout.{Contents, record_of, Lays}
use Rattle.reading.specs.Refusals.{Stopped}

-- code and words are those of one answer: its code, and what it leaves in the lent words
pub record Reply {A : Type 0} (code : A → ℕ) (left : A → List ℕ → List ℕ) (said : A) (words words' : List ℕ) (r : ℕ) : Type 0 where
  pub code_is : r ≡ code said
  pub words_are : words' ≡ left said words

-- they are those of the computed answer, and of one that is right of the plan's lists; the number and the spot of a reading fault, and nothing written
pub record Replied {A : Type 0} (code : A → ℕ) (left : A → List ℕ → List ℕ) (Right : Plan → A → Type 0) (answer : A) (bytes words words' : List ℕ) (r : ℕ)
    : Type 0 where
  pub computed : Reply code left answer words words' r
  pub right : (c : Contents) → Lays bytes c → (x : A) × Right (record_of c) x × Reply code left x words words' r
  pub refused : (n s : ℕ) → Stopped bytes n s → (r ≡ CODE_STEP * n + s) × (words' ≡ words)
