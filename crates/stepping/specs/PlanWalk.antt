-- "Going from the start to the end" (document 02, S-8): from each position to the next, until none is left.
use Rattle.std.specs.Prelude.{◌≡◌, List, [], ◌∷◌, ℕ, Option, None, Some, Ok}
use Rattle.stepping.specs.Followed.{followed}

pub data Walked (bytes : List ℕ) : Option ℕ → List ℕ → Type 0 where
  ends : {from : Option ℕ} → followed bytes from ≡ Ok None → Walked bytes from []
  goes : {from : Option ℕ} {M : ℕ} {Ms : List ℕ} → followed bytes from ≡ Ok (Some M) → Walked bytes (Some M) Ms → Walked bytes from (M ∷ Ms)
