-- Families of sets of atoms, none within another, and the binomial coefficients that bound them (document 02, S-14).
use mathlib.Core.List.{List, [], ◌∷◌, Memᴰ}
use Rattle.std.specs.Prelude.{ℕ, zero, suc, ◌+◌, ◌/◌}
use Rattle.atoms.specs.Word.{◌⊆◌}

-- neither of two sets lies within the other; so they differ
pub record Incomparable (M N : ℕ) : Type 0 where
  pub not_within : ¬ (M ⊆ N)
  pub not_around : ¬ (N ⊆ M)

-- "a family of sets .., none within another": the sets of the list, each once
pub data Antichain : List ℕ → Type 0 where
  antichain_nil : Antichain []
  antichain_cons : {M : ℕ} {family : List ℕ} → ((N : ℕ) → Memᴰ N family → Incomparable M N) → Antichain family → Antichain (M ∷ family)

-- n choose k, by Pascal's rule
unfoldable pub binomial : ℕ → ℕ → ℕ
binomial zero zero = 1
binomial zero (suc k) = 0
binomial (suc n) zero = 1
binomial (suc n) (suc k) = binomial n k + binomial n (suc k)

-- "the middle binomial coefficient"
abbrev pub middle_binomial : ℕ → ℕ
middle_binomial n = binomial n (n / 2)
