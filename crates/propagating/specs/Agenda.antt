-- Inner: the agenda's weight, by which propagation falls, and the index of the steps that a decided atom wakes. Which steps are on the agenda is free: one
-- that is left out costs pruning and no member.
use Rattle.std.specs.Prelude.{◌≡◌, List, ℕ, ◌+◌, ◌≤◌, ◌<◌, length, get_or}
use Rattle.std.specs.Int.Count.{ones}
use Rattle.atoms.specs.Word.{ATOMS, Has, Apart, ◌∪◌, atom, AtMostOne}
use Rattle.atoms.specs.Collected.{Collects}
use Rattle.plan.specs.Limits.{MAX_TABLES, MAX_UNITS}
use Rattle.answer_sets.specs.Lent.{lent, looks, inputs}
use Rattle.states.specs.State.{undecided}
use Rattle.states.specs.declared.state.State.{State}
use Rattle.narrowing.specs.Marks.{NotedAt, ByOne}
use Rattle.narrowing.specs.Woken.{WOKEN_WORDS, SomeWakes}
use Rattle.parities.specs.Parity.{ParityTable, ParityAtom}
use Rattle.parities.specs.Told.{TellsParity, ToldAtom}
use Rattle.propagating.specs.declared.unit.Job.{Job}
use Rattle.propagating.specs.declared.agenda.Agenda.{Agenda}
use Rattle.propagating.specs.declared.agenda.Taken.{Taken}

-- how many steps are on it
abbrev pub weight : Agenda → ℕ
weight a = ones a.rules + ones a.supports + ones a.others

-- no step is on it
pub record Idle (a : Agenda) : Type 0 where
  pub rules : a.rules ≡ 0
  pub supports : a.supports ≡ 0
  pub others : a.others ≡ 0

-- one step is taken from it
pub record TakenFrom (a : Agenda) (r : Taken) : Type 0 where
  pub less : weight r.rest < weight a

-- where no atom was decided no step is added
pub record Woken (before after : State) (a r : Agenda) : Type 0 where
  pub no_more : undecided after.up after.dropped ≡ undecided before.up before.dropped → weight r ≤ weight a

-- the index has a word for each atom in each of its parts
abbrev pub INDEX_WORDS : ℕ
INDEX_WORDS = WOKEN_WORDS + ATOMS

-- the founded step's place in the agenda's third word, behind the lists
abbrev pub FOUNDED_PLACE : ℕ
FOUNDED_PLACE = MAX_UNITS

-- the place of the first table there
abbrev pub TABLES_PLACE : ℕ
TABLES_PLACE = FOUNDED_PLACE + 1

-- and that of the sums, behind the tables
abbrev pub SUMS_PLACE : ℕ
SUMS_PLACE = TABLES_PLACE + MAX_TABLES

-- the atoms of rule r
abbrev pub atoms_of : List ℕ → ℕ → ℕ
atoms_of rules r = (lent rules).head r ∪ ((lent rules).positive r ∪ looks rules r)

-- list v is woken by its head atoms
abbrev pub WakesList : List ℕ → ℕ → ℕ → ℕ → Type 0
WakesList heads v i q = NotedAt WOKEN_WORDS (get_or heads v 0) (atom v) i q

-- the founded step is woken by the atoms of a rule with a looped head atom
pub record WakesFounded (rules : List ℕ) (looped r i q : ℕ) : Type 0 where
  pub is_looped : ¬ Apart ((lent rules).head r) looped
  pub noted : NotedAt WOKEN_WORDS (atoms_of rules r) (atom FOUNDED_PLACE) i q

-- table t has a pilot, and its step is woken by its inputs and its pilot
pub record WakesTable (linked pilots : List ℕ) (t i q : ℕ) : Type 0 where
  pub has_pilot : ¬ (get_or pilots t 0 ≡ 0)
  pub noted : NotedAt WOKEN_WORDS (inputs linked t ∪ get_or pilots t 0) (atom (TABLES_PLACE + t)) i q

-- one of the tables below n is
pub record WakesTables (linked pilots : List ℕ) (n i q : ℕ) : Type 0 where
  pub table : ℕ
  pub lower : table < n
  pub wakes : WakesTable linked pilots table i q

-- two tables or more are parities with a pilot, and their sums are woken by their inputs and pilots
pub record WakesSums (linked pilots : List ℕ) (i q : ℕ) : Type 0 where
  pub tables : ℕ
  pub are_parities : Collects (ParityTable linked pilots) tables
  pub several : ¬ AtMostOne tables
  pub atom : ℕ
  pub of_table : ParityAtom linked pilots atom
  pub at : i ≡ WOKEN_WORDS + atom
  pub place : q ≡ SUMS_PLACE

-- two numbered constraints or more have one use, of a parity table, and the sums are woken by their atoms
pub record WakesTold (rules : List ℕ) (which i q : ℕ) : Type 0 where
  pub telling : ℕ
  pub are_telling : Collects (λ r. Has which r × TellsParity rules r) telling
  pub several : ¬ AtMostOne telling
  pub atom : ℕ
  pub of_rule : ToldAtom rules which atom
  pub at : i ≡ WOKEN_WORDS + atom
  pub place : q ≡ SUMS_PLACE

-- q is the place of a table below n that has a pilot
pub record TablePlace (pilots : List ℕ) (n q : ℕ) : Type 0 where
  pub table : ℕ
  pub lower : table < n
  pub has_pilot : ¬ (get_or pilots table 0 ≡ 0)
  pub place : q ≡ TABLES_PLACE + table

-- step q stands at place i of the index of a unit whose rules are linked
pub data Indexed (rules linked pilots heads : List ℕ) (unit : Job) (looped i q : ℕ) : Type 0 where
  by_rule : SomeWakes linked unit.rules i q → Indexed rules linked pilots heads unit looped i q
  by_list : ByOne (WakesList heads) unit.nearest i q → Indexed rules linked pilots heads unit looped i q
  by_loop : ByOne (WakesFounded rules looped) unit.rules i q → Indexed rules linked pilots heads unit looped i q
  by_table : WakesTables linked pilots MAX_TABLES i q → Indexed rules linked pilots heads unit looped i q
  by_sums : WakesSums linked pilots i q → Indexed rules linked pilots heads unit looped i q
  by_told : WakesTold rules unit.rules i q → Indexed rules linked pilots heads unit looped i q

-- the whole index
pub record WakeIndex (rules linked pilots heads : List ℕ) (unit : Job) (looped : ℕ) (index : List ℕ) : Type 0 where
  pub long : length index ≡ INDEX_WORDS
  pub words : (i : ℕ) → Collects (Indexed rules linked pilots heads unit looped i) (get_or index i 0)
