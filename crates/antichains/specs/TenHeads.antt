-- "Depots plan only groups with ten atoms or fewer in heads and want to know that refusal 15 can't meet them." (document 02, S-14)
use Rattle.std.specs.Prelude.{◌≡◌, List, ℕ, ◌/◌, ◌≤◌, ◌<◌, length, get_or}
use Rattle.plan.specs.Limits.{TABLE_WORDS, COUNTS}
use Rattle.plan.specs.Faults.{RefusedBy, CODE_STEP}
use Rattle.plan.specs.Faults.{Accepted}
use Rattle.reading.specs.Layout.{Contents, record_of, Lays}
use Rattle.dependency_graph.specs.Graph.{Passes}
use Rattle.demands.specs.Demand1.{units_in, TableFixed}
use Rattle.demands.specs.Demands.{ListsComplete}
use Rattle.demands.specs.declared.listing.Listing.{Listing}
use Rattle.sheet.specs.Sheet.{positions_sheet, refusal_sheet}
use Rattle.plan_sheet.specs.PlanSheets.{Positions}
use Rattle.antichains.specs.Family.{middle_binomial}
use Rattle.antichains.specs.HeadAtoms.{FewHeads}

-- "such a plan": it "passes both", reading and graph, and has "ten atoms or fewer in heads"
pub record TenHeaded (bytes : List ℕ) (c : Contents) : Type 0 where
  pub lays : Lays bytes c
  pub passes : Passes (units_in c)
  pub few : FewHeads 10 (units_in c)

-- "none of its lists passes 256, a cut last list included": whatever the table, the listing is not refused by 15; with a long enough table every list
-- is in its place, and the last one has what shows of every answer set
pub record ListingFits (c : Contents) (table : List ℕ) (r : Listing) (table' : List ℕ) : Type 0 where
  pub not_long : (u : ℕ) → ¬ RefusedBy r.outcome 15 u
  pub accepted : TABLE_WORDS ≤ length table → r.outcome ≡ Accepted
  pub at_most : TABLE_WORDS ≤ length table → (i : ℕ) → i < COUNTS → get_or r.counts i 0 ≤ middle_binomial 10
  pub all_lists : TABLE_WORDS ≤ length table → TableFixed (units_in c) table r table'
  pub last_list : TABLE_WORDS ≤ length table → ListsComplete (record_of c) r table'

-- the same of its sheet: no line `refused 15 at ..`, and the positions where the table is long enough
pub record SheetFits (c : Contents) (table sheet : List ℕ) : Type 0 where
  pub not_long : (u : ℕ) → ¬ (sheet ≡ refusal_sheet 15 u)
  pub positions : TABLE_WORDS ≤ length table → (ws : List ℕ) × (sheet ≡ positions_sheet ws) × Positions (record_of c) ws

-- the same of the number that a host is handed: no code of 15, and 0 where the table is long enough
pub record CodeFits (table : List ℕ) (r : ℕ) : Type 0 where
  pub not_long : ¬ (r / CODE_STEP ≡ 15)
  pub listed : TABLE_WORDS ≤ length table → r ≡ 0
