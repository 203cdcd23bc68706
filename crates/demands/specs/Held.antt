-- Inner: lists in the table, while some are still to come.
use Rattle.std.specs.Prelude.{◌≡◌, List, ℕ, ◌≤◌, length}
use Rattle.plan.specs.Limits.{LIST_WORDS, TABLE_WORDS}
use Rattle.demands.specs.LentTable.{table_with, counts_with}

-- the table and the counts hold these lists, each of at most 256 members
pub record Holding (lists : ℕ → List ℕ) (table₀ table counts : List ℕ) : Type 0 where
  pub table_is : table ≡ table_with lists table₀
  pub counts_are : counts ≡ counts_with lists
  pub small : (i : ℕ) → length (lists i) ≤ LIST_WORDS
  pub long : TABLE_WORDS ≤ length table₀
