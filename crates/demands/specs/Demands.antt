-- Demands 2 and 3 in plain sight: which graphs pass, when refusal 15 comes, and what the last list holds.
use Rattle.std.specs.Prelude.{◌≡◌, ◌↔◌, ◌⊎◌, ℕ, ◌*◌, ◌≤◌, ◌<◌, length, take, drop, get_or}
use mathlib.Core.List.{List, [], ◌∷◌, Memᴰ}
use Rattle.atoms.specs.Rising.{Rising}
use Rattle.atoms.specs.Collected.{Least}
use Rattle.atoms.specs.Cuts.{CutOf}
use Rattle.reading.specs.Reading.{reading}
use Rattle.plan.specs.Limits.{LIST_WORDS, LAST_LIST, TABLE_WORDS, LAST_COUNT}
use Rattle.plan.specs.Faults.{RefusedBy}
use Rattle.plan.specs.declared.record.Plan.{Plan}
use Rattle.plan.specs.Faults.{Accepted, Outcome}
use Rattle.plan_meaning.specs.Settled.{Settles}
use Rattle.dependency_graph.specs.Units.{Units, GivenFree}
use Rattle.dependency_graph.specs.PlanUnits.{units_of}
use Rattle.dependency_graph.specs.Graph.{ConditionA, ConditionB, Acyclic, ConditionC, Passes}
use Rattle.dependency_graph.specs.Offenders.{GivenInHead, RuleInNoUnit, HeadedRuleInSeveral, Cycle, NonmonotonicUnseen, MonotonicUnseen}
use Rattle.dependency_graph.specs.Order.{InOrder}
use Rattle.splitting.specs.UnitList.{Listed, with_last}
use Rattle.demands.specs.declared.listing.Listing.{Listing}

-- ---- demand 2: the graph

-- the numbers of the graph place; 16 is "tried first" there (02, S-1)
abbrev pub GraphNumber : ℕ → Type 0
GraphNumber n = (n ≡ 16) ⊎ ((10 ≤ n) × (n ≤ 14))

-- a graph passes exactly if the conditions hold; otherwise the first row that fits counts, at its lowest rule or unit
pub record GraphJudged (S : Units) (outcome : Outcome) : Type 0 where
  pub passes : ((n s : ℕ) → GraphNumber n → ¬ RefusedBy outcome n s) ↔ Passes S
  pub sixteen : (r : ℕ) → RefusedBy outcome 16 r ↔ Least (GivenInHead S) r
  pub ten : (r : ℕ) → RefusedBy outcome 10 r ↔ (GivenFree S × Least (RuleInNoUnit S) r)
  pub eleven : (r : ℕ) → RefusedBy outcome 11 r ↔ (GivenFree S × ConditionA S × Least (HeadedRuleInSeveral S) r)
  pub twelve : (u : ℕ) → RefusedBy outcome 12 u ↔ (GivenFree S × ConditionA S × ConditionB S × Least (Cycle S) u)
  pub thirteen : (r : ℕ)
      → RefusedBy outcome 13 r ↔ (GivenFree S × ConditionA S × ConditionB S × Acyclic S × Least (NonmonotonicUnseen S) r)
  pub fourteen : (r : ℕ)
      → RefusedBy outcome 14 r ↔ (GivenFree S × ConditionA S × ConditionB S × Acyclic S × ConditionC S × Least (MonotonicUnseen S) r)

-- for every plan that reads, and every long enough table
pub record Demand2 (bytes table : List ℕ) (r : Listing) : Type 0 where
  pub judged : (reading bytes).outcome ≡ Accepted → TABLE_WORDS ≤ length table → GraphJudged (units_of (reading bytes).plan) r.outcome

-- ---- demand 3: the last list

-- what the last list holds: "the answer sets cut to shown atoms" (02, S-11), as members of the one more unit's list
abbrev pub Shown : Units → ℕ → Type 0
Shown S = CutOf S.shown (Listed (with_last S) S.units)

-- the members, each once, rising
pub record ListOf (Member : ℕ → Type 0) (list : List ℕ) : Type 0 where
  pub rising : Rising list
  pub members : (M : ℕ) → Memᴰ M list ↔ Member M

-- "list above 256": there are more members
pub record Long (Member : ℕ → Type 0) : Type 0 where
  pub list : List ℕ
  pub is : ListOf Member list
  pub above : LIST_WORDS < length list

-- there are not
pub record FitsList (Member : ℕ → Type 0) : Type 0 where
  pub list : List ℕ
  pub is : ListOf Member list
  pub at_most : length list ≤ LIST_WORDS

-- "first such unit in working order": u's list is the first above 256 along these units; the last list, whose number is the count of
-- units, comes after all: "refusal 15 for the last list counts cut positions" (02, S-11)
pub data FirstLong (S : Units) : List ℕ → ℕ → Type 0 where
  here : {u : ℕ} {us : List ℕ} → Long (Listed S u) → FirstLong S (u ∷ us) u
  later : {u w : ℕ} {us : List ℕ} → FitsList (Listed S u) → FirstLong S us w → FirstLong S (u ∷ us) w
  last : Long (Shown S) → FirstLong S [] S.units

-- "The list of unit i starts at word 256·i", as many words as its count says
abbrev pub list_in : Listing → List ℕ → ℕ → List ℕ
list_in r table i = take (get_or r.counts i 0) (drop (LIST_WORDS * i) table)

-- "The last list in the table is the words from 4,096 on, as many as the last count says"
abbrev pub last_in : Listing → List ℕ → List ℕ
last_in r table = take (get_or r.counts LAST_COUNT 0) (drop LAST_LIST table)

-- each unit's list is in its place; the last list holds what shows of every answer set of all the plan's rules as one set, with its given atoms as
-- facts, once each, rising, and nothing else; the last count is their number
pub record ListsComplete (p : Plan) (r : Listing) (table : List ℕ) : Type 0 where
  pub accepted : r.outcome ≡ Accepted
  pub units : (u : ℕ) → u < p.unit_count → ListOf (Listed (units_of p) u) (list_in r table u)
  pub rising : Rising (last_in r table)
  pub members : (X : ℕ)
      → Memᴰ X (last_in r table) ↔ CutOf p.once.shown.word (Settles p) X
  pub counted : length (last_in r table) ≡ get_or r.counts LAST_COUNT 0

-- in the working order, refusal 15 exactly at the first list above 256, and otherwise all answer sets
pub record Complete (p : Plan) (r : Listing) (table : List ℕ) : Type 0 where
  pub order : List ℕ
  pub in_order : InOrder (units_of p) 0 order
  pub fifteen : (u : ℕ) → RefusedBy r.outcome 15 u ↔ FirstLong (units_of p) order u
  pub otherwise : ((u : ℕ) → ¬ FirstLong (units_of p) order u) → ListsComplete p r table

-- for every plan that passes reading and graph, and every long enough table
pub record Demand3 (bytes table : List ℕ) (r : Listing) (table' : List ℕ) : Type 0 where
  pub complete : (reading bytes).outcome ≡ Accepted → Passes (units_of (reading bytes).plan) → TABLE_WORDS ≤ length table
      → Complete (reading bytes).plan r table'
