-- Lists of words.
use Rattle.std.specs.Prelude.{List, [], ◌∷◌, ◌++◌, ℕ, zero, suc, ◌-◌, length, replicate}

-- a list filled up with zeros
unfoldable pub padded : ℕ → List ℕ → List ℕ
padded size xs = xs ++ replicate {A = ℕ} (size - length xs) 0

-- f 0, f 1, .. n numbers in all
unfoldable pub tabulate : ℕ → (ℕ → ℕ) → List ℕ
tabulate zero f = []
tabulate (suc n) f = f 0 ∷ tabulate n (λ i. f (suc i))
