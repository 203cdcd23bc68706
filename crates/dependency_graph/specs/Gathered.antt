-- What is gathered over the numbers of a word by what a function answers of each.
use Rattle.std.specs.Prelude.{Bool, true, false, ℕ}
use Rattle.atoms.specs.Word.{Has}

-- of the word's numbers those are found of which the test holds: `answers` says what it answers
pub record HoldingOf (answers : ℕ → Bool → Type 0) (which found : ℕ) : Type 0 where
  pub holds : (i : ℕ) → Has found i → Has which i × answers i true
  pub others : (i : ℕ) → Has which i → ¬ Has found i → answers i false

-- all the atoms of the words of the word's numbers, and no others: `answers` says what word is a number's
pub record UnionOver (answers : ℕ → ℕ → Type 0) (which all : ℕ) : Type 0 where
  pub from : (a : ℕ) → Has all a → (i : ℕ) × Has which i × ((w : ℕ) × answers i w × Has w a)
  pub each : (i : ℕ) → Has which i → (w : ℕ) × answers i w × ((a : ℕ) → Has w a → Has all a)
