-- Words that collect the numbers with a property, and the least number with one.
use Rattle.std.specs.Prelude.{Bool, true, false, ℕ, zero, suc, ◌<◌}
use Rattle.atoms.specs.Word.{Has, has, ATOMS}

-- the word's atoms are those of which K holds
pub record Collects (K : ℕ → Type 0) (word : ℕ) : Type 0 where
  pub each : (a : ℕ) → Has word a → K a
  pub all : (a : ℕ) → K a → Has word a

-- r is the lowest number of which P holds
pub record Least (P : ℕ → Type 0) (r : ℕ) : Type 0 where
  pub here : P r
  pub least : (q : ℕ) → q < r → ¬ P q

-- the lowest number below n of which the test holds, and n where there is none
unfoldable pub lowest : ℕ → (ℕ → Bool) → ℕ
lowest zero p = zero
lowest (suc n) p = elim (p 0) [ true ↦ zero | false ↦ suc (lowest n (λ i. p (suc i))) ]

-- the lowest number in a word
unfoldable pub lowest_of : ℕ → ℕ
lowest_of w = lowest ATOMS (has w)
