-- Inner: what the step of the counter asks for.
use Rattle.std.specs.Prelude.{List, ℕ, ◌+◌, ◌^◌, ◌≤◌, ◌<◌, length, get_or}

-- the first n questions are there, and each of their counts has room to rise
pub record Holdable (n : ℕ) (up dropped counts : List ℕ) : Type 0 where
  pub all_up : n ≤ length up
  pub all_dropped : n ≤ length dropped
  pub all_counts : n ≤ length counts
  pub room : (i : ℕ) → i < n → get_or counts i 0 + 1 < 2 ^ 64
