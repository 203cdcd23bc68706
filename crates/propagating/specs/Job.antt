-- Inner: what a search looks for: the positions that belong to the list of one unit, by the lists of its direct predecessors.
use Rattle.std.specs.Prelude.{◌≡◌, true, List, ℕ, ◌^◌, ◌<◌}
use Rattle.atoms.specs.Word.{ATOMS, ◌⊆◌, ◌∩◌}
use Rattle.answer_sets.specs.Lent.{lent, Lent}
use Rattle.answer_sets.specs.Test.{answer_set}
use Rattle.joining.specs.Joins.{joins, Joinable}
use Rattle.propagating.specs.declared.unit.Job.{Job}

-- M belongs to the unit's list: it joins the predecessors' lists and is an answer set of the unit's rules with its input as facts
pub record Belongs (rules table counts heads : List ℕ) (unit : Job) (M : ℕ) : Type 0 where
  pub word : M < 2 ^ ATOMS
  pub joined : joins table counts heads unit.predecessors M ≡ true
  pub answers : answer_set (lent rules) unit.rules (M ∩ unit.inputs) M ≡ true

-- all that a search is lent
pub record Searchable (rules table counts heads : List ℕ) (unit : Job) : Type 0 where
  pub rules_lent : Lent rules unit.rules
  pub joinable : Joinable table counts heads unit.predecessors
  pub near : unit.nearest ⊆ unit.predecessors
