-- The graph place's verdict: "inside a place the first row that fits counts", with the lowest rule or unit that breaks it.
use Rattle.std.specs.Prelude.{true, false, ℕ, eqb}
use Rattle.atoms.specs.Collected.{lowest_of, Least}
use Rattle.plan.specs.declared.fault.Fault.{Fault}
use Rattle.plan.specs.Faults.{Accepted, Outcome, Refused}
use Rattle.dependency_graph.specs.Units.{Units, GivenFree}
use Rattle.dependency_graph.specs.Graph.{Passes, ConditionA, ConditionB, Acyclic, ConditionC}
use Rattle.dependency_graph.specs.Offenders.{GivenInHead, RuleInNoUnit, HeadedRuleInSeveral, Cycle, NonmonotonicUnseen, MonotonicUnseen}
use Rattle.dependency_graph.specs.Offenders.{given_in_head, rule_in_no_unit, headed_rule_in_several, cycle, nonmonotonic_unseen, monotonic_unseen}

-- one row: the fault at the lowest offender, and the rows below where there is none
unfoldable pub fault_or : ℕ → (ℕ → Fault) → Outcome → Outcome
fault_or offenders fault below = elim (eqb offenders 0) [ true ↦ below | false ↦ Refused (fault (lowest_of offenders)) ]

-- row 16, "tried first in the graph place", and rows 10 to 14
unfoldable pub verdict : Units → Outcome
verdict S =
    fault_or (given_in_head S) Fault.GivenInHead
    (fault_or (rule_in_no_unit S) Fault.RuleInNoUnit
    (fault_or (headed_rule_in_several S) Fault.HeadedRuleInSeveral
    (fault_or (cycle S) Fault.Cycle
    (fault_or (nonmonotonic_unseen S) Fault.NonmonotonicUnseen (fault_or (monotonic_unseen S) Fault.MonotonicUnseen Accepted)))))

-- what a verdict says: the rows above it do not fit, and its spot is the lowest offender of its row
pub data VerdictRight (S : Units) : Outcome → Type 0 where
  passes : Passes S → VerdictRight S Accepted
  row_16 : {r : ℕ} → Least (GivenInHead S) r → VerdictRight S (Refused (Fault.GivenInHead r))
  row_10 : {r : ℕ} → GivenFree S → Least (RuleInNoUnit S) r → VerdictRight S (Refused (Fault.RuleInNoUnit r))
  row_11 : {r : ℕ} → GivenFree S → ConditionA S → Least (HeadedRuleInSeveral S) r → VerdictRight S (Refused (Fault.HeadedRuleInSeveral r))
  row_12 : {u : ℕ} → GivenFree S → ConditionA S → ConditionB S → Least (Cycle S) u → VerdictRight S (Refused (Fault.Cycle u))
  row_13 : {r : ℕ} → GivenFree S → ConditionA S → ConditionB S → Acyclic S → Least (NonmonotonicUnseen S) r
      → VerdictRight S (Refused (Fault.NonmonotonicUnseen r))
  row_14 : {r : ℕ} → GivenFree S → ConditionA S → ConditionB S → Acyclic S → ConditionC S → Least (MonotonicUnseen S) r
      → VerdictRight S (Refused (Fault.MonotonicUnseen r))
