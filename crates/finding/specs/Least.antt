-- The least number with a property behind a place, and the least few (document 02, S-8).
use Rattle.std.specs.Prelude.{◌≡◌, ◌⊎◌, ℕ, ◌≤◌, ◌<◌, length, None, Option, Some}
use mathlib.Core.List.{List, Memᴰ}
use Rattle.atoms.specs.Rising.{Rising}

-- "either "from the start" or a position": every position is behind the start, and those strictly above p are behind p
pub data Behind : Option ℕ → ℕ → Type 0 where
  from_start : {M : ℕ} → Behind None M
  above : {p M : ℕ} → p < M → Behind (Some p) M

-- "the least", or that there is none
pub data LeastOf (Q : ℕ → Type 0) : Option ℕ → Type 0 where
  least : {M : ℕ} → Q M → ((N : ℕ) → Q N → M ≤ N) → LeastOf Q (Some M)
  none : ((N : ℕ) → ¬ Q N) → LeastOf Q None

-- the least n, rising; or all, where there are fewer
pub record Leasts (Q : ℕ → Type 0) (n : ℕ) (xs : List ℕ) : Type 0 where
  pub rising : Rising xs
  pub few : length xs ≤ n
  pub each : (M : ℕ) → Memᴰ M xs → Q M
  pub all : (N : ℕ) → Q N → Memᴰ N xs ⊎ ((length xs ≡ n) × ((M : ℕ) → Memᴰ M xs → M < N))
