-- Inner: spare atoms, which may serve as pilots: whoever looks for a list does not look at them.
use Rattle.std.specs.Prelude.{◌≡◌, ◌↔◌, List, ℕ, ◌<◌, get_or}
use Rattle.atoms.specs.Word.{Has, ◌⊆◌, Apart, ◌∪◌, below}
use Rattle.atoms.specs.Bounded.{union_in}
use Rattle.plan.specs.Limits.{MAX_TABLES}
use Rattle.answer_sets.specs.Lent.{inputs}
use Rattle.answer_sets.specs.SubsetTest.{InRule}
use Rattle.states.specs.declared.state.State.{State}
use Rattle.propagating.specs.declared.unit.Job.{Job}

-- the two positions differ in atoms of X alone
pub record AlikeBut (X M N : ℕ) : Type 0 where
  pub elsewhere : (i : ℕ) → ¬ Has X i → Has M i ↔ Has N i

-- the unit with these inputs more
abbrev pub with_inputs : Job → ℕ → Job
with_inputs unit X = record { rules = unit.rules; inputs = unit.inputs ∪ X; predecessors = unit.predecessors; nearest = unit.nearest }

-- no atom of X stands in a numbered rule
pub record Spare (rules : List ℕ) (which X : ℕ) : Type 0 where
  pub in_no_rule : (r i : ℕ) → Has which r → InRule rules r i → ¬ Has X i

-- nor in the inputs of the first n tables
pub record NoInputs (rules : List ℕ) (X n : ℕ) : Type 0 where
  pub each : (t : ℕ) → t < n → Apart (inputs rules t) X

-- no atom is the pilot of two tables
pub record DistinctPilots (pilots : List ℕ) : Type 0 where
  pub same : (t u a : ℕ) → t < MAX_TABLES → u < MAX_TABLES → Has (get_or pilots t 0) a → Has (get_or pilots u 0) a → t ≡ u

-- all pilots
abbrev pub all_pilots : List ℕ → ℕ
all_pilots pilots = union_in MAX_TABLES (below MAX_TABLES) (λ t. get_or pilots t 0)

-- the pilots are spare atoms, each of one table
pub record Piloted (rules heads pilots : List ℕ) (unit : Job) (X : ℕ) : Type 0 where
  pub spare : Spare rules unit.rules X
  pub no_inputs : NoInputs rules X MAX_TABLES
  pub no_heads : (v : ℕ) → Has unit.predecessors v → Apart (get_or heads v 0) X
  pub within : (t : ℕ) → t < MAX_TABLES → get_or pilots t 0 ⊆ X
  pub distinct : DistinctPilots pilots

-- all atoms of X are dropped in the state, and none is up
pub record AllDown (X : ℕ) (s : State) : Type 0 where
  pub dropped : X ⊆ s.dropped
  pub not_up : Apart s.up X
