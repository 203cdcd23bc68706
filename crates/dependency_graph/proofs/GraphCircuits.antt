-- Small circuits of document 01 at the graph place: the definitions give the verdicts that the paper has.
use Rattle.dependency_graph.proofs.Prelude.{◌≡◌, refl, List, [], ◌∷◌, ◌++◌, map, ℕ, replicate, has, apart, subset, ◌∩◌, ◌∪◌, ◌∖◌, atom, below, union_in}
use Rattle.dependency_graph.proofs.Prelude.{word_below, lowest, lowest_of, Plan, Fault, Outcome, Accepted, Refused, through, reach_via, reach, ready}
use Rattle.dependency_graph.proofs.Prelude.{next_unit, order_from, working_order, units_of, twice_below, seen, unseen_heads, nonmonotonic_unseen_in}
use Rattle.dependency_graph.proofs.Prelude.{monotonic_seen_in, given_in_head, rule_in_no_unit, headed_rule_in_several, cycle, nonmonotonic_unseen}
use Rattle.dependency_graph.proofs.Prelude.{monotonic_unseen, fault_or, verdict}
use Rattle.plan.specs.Limits.{FIRST_RULE}
use Rattle.plan.specs.Record.{never_stood, keyed}
use Rattle.answer_sets.specs.Lent.{lent, used_inputs, used_table}

-- the words of rules without uses
abbrev plain : List ℕ → List ℕ
plain [] = []
plain (head ∷ []) = []
plain (head ∷ positive ∷ []) = []
plain (head ∷ positive ∷ negative ∷ rules) = head ∷ positive ∷ negative ∷ 0 ∷ plain rules

-- a small plan: given atoms, the words of its tables and rules, how many rules, units and their count, edges
abbrev tabled : ℕ → List ℕ → ℕ → List ℕ → ℕ → List ℕ → Plan
tabled given words n units m predecessors =
    record {
      once = keyed never_stood given;
      rules = words;
      table_count = 0;
      rule_count = n;
      use_count = 0;
      units = units;
      unit_count = m;
      predecessors = predecessors;
      edge_count = 0;
    }

abbrev giving : ℕ → List ℕ → ℕ → List ℕ → ℕ → List ℕ → Plan
giving given rules = tabled given (replicate FIRST_RULE 0 ++ plain rules)

abbrev small : List ℕ → ℕ → List ℕ → ℕ → List ℕ → Plan
small = giving 0

-- plan P and P without its edge; circuits 4, 7, 8, 9, 10 and 11; a rule in no unit; a fact in two units; a unit above a cycle;
-- a path in place of an edge; given atoms in the heads of rules 1 and 2, while rule 0 is in no unit; a given atom in a body alone;
-- a constraint that uses a table over atom 1 of another unit, with sign 1, without and with an edge
abbrev pub graphs : List Plan
graphs =
    small (3 ∷ 0 ∷ 0 ∷ 4 ∷ 1 ∷ 0 ∷ []) 2 (1 ∷ 2 ∷ []) 2 (0 ∷ 1 ∷ [])
    ∷ small (3 ∷ 0 ∷ 0 ∷ 4 ∷ 1 ∷ 0 ∷ []) 2 (1 ∷ 2 ∷ []) 2 (0 ∷ 0 ∷ [])
    ∷ small (1 ∷ 0 ∷ 1 ∷ []) 1 (1 ∷ []) 1 (0 ∷ [])
    ∷ small (3 ∷ 0 ∷ 0 ∷ 4 ∷ 1 ∷ 0 ∷ 8 ∷ 1 ∷ 0 ∷ 16 ∷ 12 ∷ 0 ∷ []) 4 (1 ∷ 2 ∷ 4 ∷ 8 ∷ []) 4 (0 ∷ 1 ∷ 1 ∷ 6 ∷ [])
    ∷ small (1 ∷ 0 ∷ 0 ∷ 2 ∷ 0 ∷ 0 ∷ 0 ∷ 3 ∷ 0 ∷ []) 3 (1 ∷ 2 ∷ 4 ∷ 4 ∷ []) 4 (0 ∷ 0 ∷ 1 ∷ 2 ∷ [])
    ∷ small (1 ∷ 0 ∷ 0 ∷ 2 ∷ 0 ∷ 0 ∷ 0 ∷ 3 ∷ 0 ∷ []) 3 (1 ∷ 2 ∷ 4 ∷ 4 ∷ []) 4 (0 ∷ 0 ∷ 3 ∷ 2 ∷ [])
    ∷ small (3 ∷ 0 ∷ 0 ∷ 0 ∷ 0 ∷ 1 ∷ []) 2 (1 ∷ 2 ∷ []) 2 (0 ∷ 0 ∷ [])
    ∷ small [] 0 (0 ∷ 0 ∷ []) 2 (2 ∷ 1 ∷ [])
    ∷ small (1 ∷ 0 ∷ 0 ∷ 2 ∷ 0 ∷ 0 ∷ []) 2 (1 ∷ []) 1 (0 ∷ [])
    ∷ small (1 ∷ 0 ∷ 0 ∷ []) 1 (1 ∷ 1 ∷ []) 2 (0 ∷ 0 ∷ [])
    ∷ small [] 0 (0 ∷ 0 ∷ 0 ∷ []) 3 (2 ∷ 4 ∷ 2 ∷ [])
    ∷ small (1 ∷ 0 ∷ 0 ∷ 2 ∷ 1 ∷ 0 ∷ []) 2 (1 ∷ 0 ∷ 2 ∷ []) 3 (0 ∷ 1 ∷ 2 ∷ [])
    ∷ giving 6 (1 ∷ 0 ∷ 0 ∷ 3 ∷ 0 ∷ 0 ∷ 4 ∷ 0 ∷ 0 ∷ []) 3 (6 ∷ []) 1 (0 ∷ [])
    ∷ giving 2 (1 ∷ 2 ∷ 0 ∷ []) 1 (1 ∷ []) 1 (0 ∷ [])
    ∷ tabled 0 (2 ∷ 1 ∷ replicate 30 0 ++ (3 ∷ 0 ∷ 0 ∷ 0 ∷ 0 ∷ 4 ∷ 0 ∷ 65536 ∷ [])) 2 (1 ∷ 2 ∷ []) 2 (0 ∷ 0 ∷ [])
    ∷ tabled 0 (2 ∷ 1 ∷ replicate 30 0 ++ (3 ∷ 0 ∷ 0 ∷ 0 ∷ 0 ∷ 4 ∷ 0 ∷ 65536 ∷ [])) 2 (1 ∷ 2 ∷ []) 2 (0 ∷ 1 ∷ [])
    ∷ []

abbrev pub verdicts : List Outcome
verdicts =
    Accepted
    ∷ Refused (Fault.MonotonicUnseen 1)
    ∷ Accepted
    ∷ Accepted
    ∷ Refused (Fault.MonotonicUnseen 2)
    ∷ Accepted
    ∷ Refused (Fault.NonmonotonicUnseen 1)
    ∷ Refused (Fault.Cycle 0)
    ∷ Refused (Fault.RuleInNoUnit 1)
    ∷ Refused (Fault.HeadedRuleInSeveral 0)
    ∷ Refused (Fault.Cycle 1)
    ∷ Refused (Fault.MonotonicUnseen 1)
    ∷ Refused (Fault.GivenInHead 1)
    ∷ Accepted
    ∷ Refused (Fault.NonmonotonicUnseen 1)
    ∷ Accepted
    ∷ []

pub circuits : map (λ p. verdict (units_of p)) graphs ≡ verdicts
unfolding verdict fault_or given_in_head rule_in_no_unit headed_rule_in_several cycle nonmonotonic_unseen monotonic_unseen
    nonmonotonic_unseen_in monotonic_seen_in seen unseen_heads twice_below union_in word_below
    lowest_of lowest reach reach_via through units_of lent used_inputs used_table has apart ◌∩◌ ◌∪◌ ◌∖◌ atom below
circuits = refl

-- a low unit that waits for a high one is worked after it
pub waiting_order : working_order (units_of (small [] 0 [] 4 (8 ∷ 0 ∷ 1 ∷ 0 ∷ []))) ≡ 1 ∷ 3 ∷ 0 ∷ 2 ∷ []
unfolding working_order order_from next_unit ready lowest has subset units_of ◌∩◌ ◌∪◌ atom below
waiting_order = refl
