-- Numbers by their digits, in any base and any number of digits. Document 02, S-5: "highest digit first".
use mathlib.Core.List.{List, [], ◌∷◌, ◌++◌, Memᴰ}
use Rattle.std.specs.Prelude.{ℕ, zero, suc, ◌+◌, ◌*◌, ◌/◌, ◌%◌, ◌^◌, ◌<◌, length}

-- the lowest n digits of x in a base, highest first
unfoldable pub digits : ℕ → ℕ → ℕ → List ℕ
digits base zero x = []
digits base (suc n) x = digits base n (x / base) ++ (x % base ∷ [])

-- the number that digits stand for in a base: each counts for the base to the power of how many digits follow it
unfoldable pub value_of : ℕ → List ℕ → ℕ
value_of base [] = 0
value_of base (d ∷ ds) = d * base ^ length ds + value_of base ds

-- every digit is below b
pub record Below (b : ℕ) (ds : List ℕ) : Type 0 where
  pub each : (d : ℕ) → Memᴰ d ds → d < b
