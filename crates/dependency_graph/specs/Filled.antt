-- Inner: tables of words that functions fill.
use Rattle.std.specs.Prelude.{◌≡◌, List, ℕ, ◌≤◌, ◌<◌, length, get_or}

-- the first n words of a table are f's; the others, and the table's length, are as before
pub record FilledFirst (n : ℕ) (f : ℕ → ℕ) (before after : List ℕ) : Type 0 where
  pub same_length : length after ≡ length before
  pub filled : (i : ℕ) → i < n → get_or after i 0 ≡ f i
  pub kept : (i : ℕ) → n ≤ i → get_or after i 0 ≡ get_or before i 0
