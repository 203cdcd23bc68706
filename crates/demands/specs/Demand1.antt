-- Demand 1 in plain sight: every plan that keeps the layout, the limits and the graph conditions and whose lists fit is listed, with every word
-- of the table fixed; every other plan and every short table is refused by the first fault in document 01's order.
use Rattle.std.specs.Prelude.{◌≡◌, ◌↔◌, List, [], ℕ, ◌+◌, ◌*◌, ◌≤◌, ◌<◌, length, drop, get_or}
use Rattle.plan.specs.Limits.{LIST_WORDS, TABLE_WORDS, COUNTS, LAST_COUNT}
use Rattle.plan.specs.Faults.{RefusedBy}
use Rattle.plan.specs.Faults.{Accepted, Outcome}
use Rattle.reading.specs.Layout.{Contents, Lays, record_of}
use Rattle.reading.specs.Refusals.{Stopped}
use Rattle.dependency_graph.specs.Units.{Units}
use Rattle.dependency_graph.specs.PlanUnits.{units_of}
use Rattle.dependency_graph.specs.Graph.{Passes}
use Rattle.dependency_graph.specs.Check.{VerdictRight}
use Rattle.dependency_graph.specs.Order.{InOrder}
use Rattle.splitting.specs.UnitList.{Listed}
use Rattle.demands.specs.Demands.{Shown, ListOf, FitsList, FirstLong}
use Rattle.demands.specs.declared.listing.Listing.{Listing}

-- the units of a plan's lists
abbrev pub units_in : Contents → Units
units_in c = units_of (record_of c)

-- "Every plan that keeps document 01's byte layout, limits and graph conditions, and whose lists fit"
pub record Listable (bytes : List ℕ) (c : Contents) : Type 0 where
  pub lays : Lays bytes c
  pub passes : Passes (units_in c)
  pub unit_fits : (u : ℕ) → u < (units_in c).units → FitsList (Listed (units_in c) u)
  pub last_fits : FitsList (Shown (units_in c))

-- "all its lists and counts, with every word of the lent table fixed" (01, The lent table)
pub record TableFixed (S : Units) (table : List ℕ) (r : Listing) (table' : List ℕ) : Type 0 where
  pub lists : ℕ → List ℕ
  pub unit_list : (u : ℕ) → u < S.units → ListOf (Listed S u) (lists u)
  pub no_unit : (i : ℕ) → S.units ≤ i → i < LAST_COUNT → lists i ≡ []
  pub last_list : ListOf (Shown S) (lists LAST_COUNT)
  pub counted : (i : ℕ) → i < COUNTS → get_or r.counts i 0 ≡ length (lists i)
  pub member : (i j : ℕ) → i < COUNTS → j < length (lists i) → get_or table' (LIST_WORDS * i + j) 0 ≡ get_or (lists i) j 0
  pub zero_behind : (i j : ℕ) → i < COUNTS → length (lists i) ≤ j → j < LIST_WORDS → get_or table' (LIST_WORDS * i + j) 0 ≡ 0
  pub untouched : drop TABLE_WORDS table' ≡ drop TABLE_WORDS table
  pub same_length : length table' ≡ length table

-- "Places go downwards; inside a place the first row that fits counts": its number and spot
pub data FirstFault (bytes table : List ℕ) : ℕ → ℕ → Type 0 where
  table_place : length table < TABLE_WORDS → FirstFault bytes table 1 (length table)
  reading_place : {n s : ℕ} → TABLE_WORDS ≤ length table → Stopped bytes n s → FirstFault bytes table n s
  graph_place : {n s : ℕ} {c : Contents} {o : Outcome} → TABLE_WORDS ≤ length table → Lays bytes c → VerdictRight (units_in c) o → RefusedBy o n s
      → FirstFault bytes table n s
  work_place : {u : ℕ} {c : Contents} {order : List ℕ} → TABLE_WORDS ≤ length table → Lays bytes c → Passes (units_in c)
      → InOrder (units_in c) 0 order → FirstLong (units_in c) order u → FirstFault bytes table 15 u

-- "A refusal gives its number and spot, and counts all 0. Numbers 1 to 14 leave the table untouched; 15 makes words 0 to 4,351 zero."
pub record LeftBy (n : ℕ) (table : List ℕ) (r : Listing) (table' : List ℕ) : Type 0 where
  pub no_counts : (i : ℕ) → i < COUNTS → get_or r.counts i 0 ≡ 0
  pub untouched : ¬ (n ≡ 15) → table' ≡ table
  pub emptied : n ≡ 15 → (i : ℕ) → i < TABLE_WORDS → get_or table' i 0 ≡ 0
  pub behind : drop TABLE_WORDS table' ≡ drop TABLE_WORDS table
  pub same_length : length table' ≡ length table

-- for every plan, of any length and content, and every table
pub record Demand1 (bytes table : List ℕ) (r : Listing) (table' : List ℕ) : Type 0 where
  pub accepts : (r.outcome ≡ Accepted) ↔ ((TABLE_WORDS ≤ length table) × ((c : Contents) × Listable bytes c))
  pub lists : (c : Contents) → Listable bytes c → TABLE_WORDS ≤ length table → TableFixed (units_in c) table r table'
  pub refuses : (n s : ℕ) → RefusedBy r.outcome n s ↔ FirstFault bytes table n s
  pub leaves : (n s : ℕ) → RefusedBy r.outcome n s → LeftBy n table r table'
