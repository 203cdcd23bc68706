-- What breaks a graph condition, by rule or unit (document 01, Faults 10 to 14; 02, S-1, 16), and the words of all that do.
-- A rule's dependence on itself is ignored: a unit sees the rules that it holds.
use Rattle.std.specs.Prelude.{◌≡◌, not, ◌&&◌, ℕ, zero, suc, ◌<◌, eqb}
use Rattle.atoms.specs.Word.{Has, has, ◌∩◌, ◌∪◌, ◌∖◌, below, apart}
use Rattle.atoms.specs.Bounded.{union_in, word_below}
use Rattle.dependency_graph.specs.Units.{Units, Holds, Path}
use Rattle.dependency_graph.specs.Graph.{Share, Nonmonotonic, Monotonic, Sees}
use Rattle.dependency_graph.specs.Heads.{reach, rule_heads}

-- "a given atom in some head": in that of rule r
pub record GivenInHead (S : Units) (r : ℕ) : Type 0 where
  pub is_rule : r < S.rules
  pub shared : Share (S.program.head r) S.given

-- "(a) broken": rule r is in no unit
pub record RuleInNoUnit (S : Units) (r : ℕ) : Type 0 where
  pub is_rule : r < S.rules
  pub nowhere : (u : ℕ) → ¬ Holds S u r

-- "(b) broken": rule r has a head and is in two units
pub record HeadedRuleInSeveral (S : Units) (r : ℕ) : Type 0 where
  pub atom : ℕ
  pub headed : Has (S.program.head r) atom
  pub first : ℕ
  pub second : ℕ
  pub in_first : Holds S first r
  pub in_second : Holds S second r
  pub two : ¬ (first ≡ second)

-- "(acyclic) broken": a path along edges returns to unit u
pub record Cycle (S : Units) (u : ℕ) : Type 0 where
  pub returns : Path S u u

-- "(c) broken": rule r depends nonmonotonically on a rule that some unit with r does not see
pub record NonmonotonicUnseen (S : Units) (r : ℕ) : Type 0 where
  pub unit : ℕ
  pub other : ℕ
  pub is_rule : other < S.rules
  pub depends : Nonmonotonic S r other
  pub held : Holds S unit r
  pub unseen : ¬ Sees S unit other

-- "(d) broken": no unit with rule r sees all rules together that r depends on monotonically
pub record MonotonicUnseen (S : Units) (r : ℕ) : Type 0 where
  pub is_rule : r < S.rules
  pub nowhere : (u : ℕ) → Holds S u r → ¬ ((s : ℕ) → s < S.rules → Monotonic S r s → Sees S u s)

-- the atoms of the words f i for the numbers i below n
abbrev pub union_below : ℕ → (ℕ → ℕ) → ℕ
union_below n f = union_in n (below n) f

-- the atoms of more than one of the words f i for the numbers i below n
unfoldable pub twice_below : ℕ → (ℕ → ℕ) → ℕ
twice_below zero f = 0
twice_below (suc n) f = twice_below n f ∪ (union_below n f ∩ f n)

-- the rules that u "holds .. or has an edge to the unit of"
unfoldable pub seen : Units → ℕ → ℕ
seen S u = S.unit u ∪ union_in S.units (S.predecessors u) (λ v. S.unit v)

-- the head atoms of the rules that u does not see
unfoldable pub unseen_heads : Units → ℕ → ℕ
unseen_heads S u = rule_heads S (below S.rules ∖ seen S u)

-- the rules of u that depend nonmonotonically on a rule that u does not see
unfoldable pub nonmonotonic_unseen_in : Units → ℕ → ℕ
nonmonotonic_unseen_in S u = word_below S.rules (λ r. has (S.unit u) r && not (apart (S.looks r) (unseen_heads S u)))

-- the rules of u all of whose monotonic dependences u sees
unfoldable pub monotonic_seen_in : Units → ℕ → ℕ
monotonic_seen_in S u =
    word_below S.rules
    (λ r. has (S.unit u) r && apart (S.program.positive r ∪ S.program.head r) (unseen_heads S u))

-- the rules with a given atom in the head
unfoldable pub given_in_head : Units → ℕ
given_in_head S = word_below S.rules (λ r. not (apart (S.program.head r) S.given))

-- the rules that break (a)
unfoldable pub rule_in_no_unit : Units → ℕ
rule_in_no_unit S = below S.rules ∖ union_below S.units (λ u. S.unit u)

-- the rules with a head
abbrev pub headed : Units → ℕ
headed S = word_below S.rules (λ r. not (eqb (S.program.head r) 0))

-- the rules in more than one unit
abbrev pub repeated : Units → ℕ
repeated S = twice_below S.units (λ u. S.unit u)

-- the rules that break (b)
unfoldable pub headed_rule_in_several : Units → ℕ
headed_rule_in_several S = headed S ∩ repeated S

-- the units on a cycle
unfoldable pub cycle : Units → ℕ
cycle S = word_below S.units (λ u. has (reach S u) u)

-- the rules that break (c)
unfoldable pub nonmonotonic_unseen : Units → ℕ
nonmonotonic_unseen S = union_below S.units (nonmonotonic_unseen_in S)

-- the rules that break (d)
unfoldable pub monotonic_unseen : Units → ℕ
monotonic_unseen S = below S.rules ∖ union_below S.units (monotonic_seen_in S)
