-- Ground rules by number, as an answer set sees them (document 01, Terms). Rule bodies stand behind `body` alone.
use Rattle.std.specs.Prelude.{◌≡◌, Bool, true, ℕ}
use Rattle.atoms.specs.Word.{Has, ◌⊆◌}

-- "A rule has three sets: head, positive body, negative body." What the negative body asks is kept as a test of the position.
pub record Program : Type 0 where
  pub head : ℕ → ℕ
  pub positive : ℕ → ℕ
  pub rest : ℕ → ℕ → Bool

-- "Its body holds at M if M has every positive atom and no negative one."
pub record Body (P : Program) (r M : ℕ) : Type 0 where
  pub positive_up : P.positive r ⊆ M
  pub rest_holds : P.rest r M ≡ true

-- "M satisfies the rule if the body fails or M has a head atom."
pub record Satisfies (P : Program) (r M : ℕ) : Type 0 where
  pub head_up : Body P r M → (a : ℕ) × Has (P.head r) a × Has M a

-- M satisfies each rule that is numbered in the word `which`
pub record SatisfiesAll (P : Program) (which M : ℕ) : Type 0 where
  pub each : (r : ℕ) → Has which r → Satisfies P r M
