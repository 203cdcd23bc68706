-- What a plan and a table get, in document 01's order: the table, reading, the graph, unit work.
use Rattle.std.specs.Prelude.{true, false, List, [], ◌∷◌, ℕ, ltb, length, Ok, Err}
use Rattle.plan.specs.Limits.{LIST_WORDS, TABLE_WORDS}
use Rattle.plan.specs.declared.fault.Fault.{Fault}
use Rattle.plan.specs.declared.fault.Fault.TheVariants.{TableShort, LongList}
use Rattle.plan.specs.Faults.{Accepted, Outcome, Refused}
use Rattle.reading.specs.Reading.{reading}
use Rattle.dependency_graph.specs.Units.{Units}
use Rattle.dependency_graph.specs.PlanUnits.{units_of}
use Rattle.dependency_graph.specs.Check.{verdict}
use Rattle.dependency_graph.specs.Order.{working_order}
use Rattle.demands.specs.UnitLists.{unit_list_of, last_list_of}
use Rattle.demands.specs.LentTable.{table_of, cleared, list_counts, no_counts_of}

-- what is handed back: refused or not, the counts, and the table
pub record Answer : Type 0 where
  pub outcome : Outcome
  pub counts : List ℕ
  pub table : List ℕ

-- a refusal, and the table that it leaves
abbrev pub refuse : Fault → List ℕ → Answer
refuse f table = record { outcome = Refused f; counts = no_counts_of; table = table }

-- "Numbers 1 to 14 leave the table untouched", and 16 does: where a place refuses nothing, the next one answers
unfoldable pub unless_refused : Outcome → List ℕ → Answer → Answer
unless_refused (Err f) table next = refuse f table
unless_refused (Ok u) table next = next

-- "list above 256 .. first such unit in working order"; where no unit's list is, the last list comes after all
unfoldable pub work_from : Units → List ℕ → List ℕ → Answer
work_from S table [] =
    elim (ltb LIST_WORDS (length (last_list_of S))) [
      | true ↦ refuse (LongList S.units) (cleared table)
      | false ↦ record { outcome = Accepted; counts = list_counts S; table = table_of S table }
    ]
work_from S table (u ∷ us) =
    elim (ltb LIST_WORDS (length (unit_list_of S u))) [ true ↦ refuse (LongList u) (cleared table) | false ↦ work_from S table us ]

-- unit work: row 15
abbrev pub unit_work : Units → List ℕ → Answer
unit_work S table = work_from S table (working_order S)

-- the graph place, rows 16 and 10 to 14, and unit work behind it
abbrev pub after_graph : Units → List ℕ → Answer
after_graph S table = unless_refused (verdict S) table (unit_work S table)

-- row 1: a table that is too short
unfoldable pub table_outcome : List ℕ → Outcome
table_outcome table = elim (ltb (length table) TABLE_WORDS) [ true ↦ Refused (TableShort (length table)) | false ↦ Accepted ]

-- the whole answer: the table's length "before all else", then reading, rows 2 to 9
unfoldable pub answer : List ℕ → List ℕ → Answer
answer bytes table =
    unless_refused (table_outcome table) table
    (unless_refused (reading bytes).outcome table (after_graph (units_of (reading bytes).plan) table))
