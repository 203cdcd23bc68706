-- Inner: what the functions of unit work say to each other.
use Rattle.std.specs.Prelude.{◌≡◌, Bool, true, false, List, [], ℕ, ◌+◌, ◌*◌, ◌≤◌, ◌<◌, length, get_or, set, replicate, Result, Ok, Err}
use Rattle.std.proofs.Math.Seq.{paste}
use Rattle.atoms.specs.Word.{Has, has, ◌⊆◌, ◌∩◌, below, outside}
use Rattle.atoms.specs.Lists.{padded}
use Rattle.states.specs.declared.state.State.{State}
use Rattle.plan.specs.Limits.{MAX_UNITS, LIST_WORDS, TABLE_WORDS, COUNTS}
use Rattle.plan.specs.Record.{Fitting}
use Rattle.plan.specs.declared.record.Plan.{Plan}
use Rattle.plan.specs.declared.fault.Fault.TheVariants.{LongList}
use Rattle.dependency_graph.specs.Units.{Units}
use Rattle.dependency_graph.specs.Graph.{Passes}
use Rattle.dependency_graph.specs.Heads.{input_heads}
use Rattle.dependency_graph.specs.PlanUnits.{units_of, HeadsOf}
use Rattle.dependency_graph.specs.declared.head_atoms.HeadAtoms.{HeadAtoms}
use Rattle.splitting.specs.UnitList.{Clean}
use Rattle.searching.specs.Listing.{Gathered, Grown}
use Rattle.propagating.specs.declared.unit.Job.{Job}
use Rattle.demands.specs.UnitLists.{unit_list_of}
use Rattle.demands.specs.LentTable.{cleared}
use Rattle.demands.specs.Held.{Holding}
use Rattle.demands.specs.Answer.{Answer, refuse, work_from, unit_work}

-- ---- one list

-- unit u as the search gets it
pub record UnitTold (T : Units) (u : ℕ) (unit : Job) : Type 0 where
  pub rules_are : unit.rules ≡ T.unit u ∩ below T.rules
  pub inputs_are : unit.inputs ≡ input_heads T u
  pub predecessors_are : unit.predecessors ≡ T.predecessors u
  pub near : unit.nearest ⊆ unit.predecessors

-- a search starts where the given atoms are up and all atoms but those of `within` are dropped
abbrev pub start_within : ℕ → ℕ → State
start_within given within = record { up = given; dropped = outside within }

-- what it finds, where the list is empty before
abbrev pub FoundFromNone : (ℕ → Type 0) → ℕ → Type 0
FoundFromNone Member = Grown (replicate {A = ℕ} LIST_WORDS 0) 0 Member

-- the members are gathered: stored with their count where they fit, and nothing is written where they do not
pub record ListStored (Member : ℕ → Type 0) (place : ℕ) (table counts table' counts' : List ℕ) (fits : Bool) : Type 0 where
  pub list : List ℕ
  pub count : ℕ
  pub gathered : Gathered (FoundFromNone Member) list count
  pub when_fits : fits ≡ true
      → (count ≤ LIST_WORDS) × (table' ≡ paste table (LIST_WORDS * place) list LIST_WORDS) × (counts' ≡ set counts place count)
  pub when_long : fits ≡ false → (LIST_WORDS < count) × (table' ≡ table) × (counts' ≡ counts)

-- the same of a list whose members are known
pub record MembersStored (members : List ℕ) (place : ℕ) (table counts table' counts' : List ℕ) (fits : Bool) : Type 0 where
  pub when_fits : fits ≡ true
      → (length members ≤ LIST_WORDS) × (table' ≡ paste table (LIST_WORDS * place) (padded LIST_WORDS members) LIST_WORDS)
      × (counts' ≡ set counts place (length members))
  pub when_long : fits ≡ false → (LIST_WORDS < length members) × (table' ≡ table) × (counts' ≡ counts)

-- ---- the lists in the table

-- the list of unit v is in the table, and its count beside it
pub record Stored (S : Units) (table counts : List ℕ) (v : ℕ) : Type 0 where
  pub counted : get_or counts v 0 ≡ length (unit_list_of S v)
  pub words : (i : ℕ) → i < length (unit_list_of S v) → get_or table (LIST_WORDS * v + i) 0 ≡ get_or (unit_list_of S v) i 0

-- the lists of the named units are where a search looks for them
pub record ListsThere (S : Units) (Named : ℕ → Type 0) (table counts : List ℕ) : Type 0 where
  pub table_long : TABLE_WORDS ≤ length table
  pub counts_long : length counts ≡ COUNTS
  pub small : (v : ℕ) → v < MAX_UNITS → get_or counts v 0 ≤ LIST_WORDS
  pub stored : (v : ℕ) → Named v → Stored S table counts v

-- ---- the units in working order

-- a plan that passed the graph place
pub record Workable (p : Plan) : Type 0 where
  pub fits : Fitting p
  pub passes : Passes (units_of p)
  pub clean : Clean (units_of p)

-- and the head atoms of its units
pub record Setting (p : Plan) (h : HeadAtoms) : Type 0 where
  pub workable : Workable p
  pub heads_of : HeadsOf p h

-- the lists so far, where the units of `done` are worked
unfoldable pub list_so_far : Units → ℕ → ℕ → List ℕ
list_so_far S done i = elim (has done i) [ true ↦ unit_list_of S i | false ↦ [] ]

-- they are in the table
pub record Working (S : Units) (done : ℕ) (table₀ table counts : List ℕ) : Type 0 where
  pub few : S.units ≤ MAX_UNITS
  pub holding : Holding (list_so_far S done) table₀ table counts
  pub done_units : (v : ℕ) → Has done v → v < S.units

-- whether all lists of units fit, or the first unit whose list does not
abbrev pub Work : Type 0
Work = Result (Unit {0}) ℕ

-- what is left of the answer behind the units
abbrev pub after_units : Units → List ℕ → Work → Answer
after_units S table (Ok u) = work_from S table []
after_units S table (Err u) = refuse (LongList u) (cleared table)

-- all units are worked, or one whose list is above 256 is found
pub record UnitsWorked (S : Units) (table₀ table counts : List ℕ) (worked : Work) : Type 0 where
  pub done : ℕ
  pub working : Working S done table₀ table counts
  pub answer_is : unit_work S table₀ ≡ after_units S table₀ worked
  pub all_done : worked ≡ Ok tt → (u : ℕ) → u < S.units → Has done u
