-- The lent table and the counts (document 01, The lent table).
use Rattle.std.specs.Prelude.{true, false, List, [], ◌++◌, ℕ, zero, suc, eqb, ltb, length, drop, replicate}
use Rattle.atoms.specs.Lists.{padded, tabulate}
use Rattle.plan.specs.Limits.{LIST_WORDS, TABLE_WORDS, COUNTS, LAST_COUNT}
use Rattle.dependency_graph.specs.Units.{Units}
use Rattle.demands.specs.UnitLists.{unit_list_of, last_list_of}

-- the lists by place: the last list is the seventeenth, the others are those of the units, and "units that aren't there" have no members
unfoldable pub list_at : Units → ℕ → List ℕ
list_at S i =
    elim (eqb i LAST_COUNT) [ true ↦ last_list_of S | false ↦ elim (ltb i S.units) [ true ↦ unit_list_of S i | false ↦ [] ] ]

-- n runs of words, one behind the other
unfoldable pub runs : ℕ → (ℕ → List ℕ) → List ℕ
runs zero f = []
runs (suc n) f = f 0 ++ runs n (λ i. f (suc i))

-- "The list of unit i starts at word 256·i, the last list at word 4,096. Each list rises .. and zeros fill up its 256 words. ..
-- Words from 4,352 on are untouched."
unfoldable pub table_with : (ℕ → List ℕ) → List ℕ → List ℕ
table_with lists table = runs COUNTS (λ i. padded LIST_WORDS (lists i)) ++ drop TABLE_WORDS table

-- "seventeen counts are returned, each the number of its list's members, the last list's count coming last"
unfoldable pub counts_with : (ℕ → List ℕ) → List ℕ
counts_with lists = tabulate COUNTS (λ i. length (lists i))

-- the table and the counts of a plan that is listed
abbrev pub table_of : Units → List ℕ → List ℕ
table_of S table = table_with (list_at S) table

abbrev pub list_counts : Units → List ℕ
list_counts S = counts_with (list_at S)

-- "15 makes words 0 to 4,351 zero"
unfoldable pub cleared : List ℕ → List ℕ
cleared table = replicate TABLE_WORDS 0 ++ drop TABLE_WORDS table

-- "A refusal gives its number and spot, and counts all 0."
unfoldable pub no_counts_of : List ℕ
no_counts_of = replicate {A = ℕ} COUNTS 0
