-- Rising lists of words, and the rising list of the numbers below a bound of which a test holds.
use Rattle.std.specs.Prelude.{List, [], ◌∷◌, ◌++◌, Bool, true, false, ℕ, zero, suc, ◌<◌, eqb, ltb}

-- each member of the list is above b
pub data Above (b : ℕ) : List ℕ → Type 0 where
  above_nil : Above b []
  above_cons : {x : ℕ} {xs : List ℕ} → b < x → Above b xs → Above b (x ∷ xs)

-- "Each list rises as unsigned numbers": each member is below all those behind it, so none comes twice
pub data Rising : List ℕ → Type 0 where
  rising_nil : Rising []
  rising_cons : {x : ℕ} {xs : List ℕ} → Above x xs → Rising xs → Rising (x ∷ xs)

-- the numbers below n of which the test holds: every one, once, rising, and nothing else
unfoldable pub members : (ℕ → Bool) → ℕ → List ℕ
members p zero = []
members p (suc n) = members p n ++ elim (p n) [ true ↦ n ∷ [] | false ↦ [] ]

-- v put into its place in a rising list, unless it is there already
unfoldable pub insert_into : ℕ → List ℕ → List ℕ
insert_into v [] = v ∷ []
insert_into v (x ∷ xs) =
    elim (ltb v x) [ true ↦ v ∷ insert_into x xs | false ↦ elim (eqb v x) [ true ↦ x ∷ xs | false ↦ x ∷ insert_into v xs ] ]
