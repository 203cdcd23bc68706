-- Head atoms by document 01's words (Unit lists), and reach and head atoms as words that compute. proofs/Under.antt: the words have
-- just these atoms.
use Rattle.std.specs.Prelude.{true, false, ℕ, zero, suc}
use Rattle.atoms.specs.Word.{Has, has, ◌∩◌, ◌∪◌, below}
use Rattle.atoms.specs.Bounded.{union_in}
use Rattle.atoms.specs.Collected.{Collects}
use Rattle.dependency_graph.specs.Units.{Units, Holds, Edge, Path}

-- ---- by meaning

-- "Write H(u) for the head atoms of u and of all units it reaches": atom a is in H(u). Given atoms count in every H.
pub data HeadAtom (S : Units) (u a : ℕ) : Type 0 where
  given_head : Has S.given a → HeadAtom S u a
  own_head : {r : ℕ} → Holds S u r → Has (S.program.head r) a → HeadAtom S u a
  reached_head : {v r : ℕ} → Path S u v → Holds S v r → Has (S.program.head r) a → HeadAtom S u a

-- "atoms of H(v) for direct predecessors v": what an input of u may have, and the given atoms
pub data InputAtom (S : Units) (u a : ℕ) : Type 0 where
  given_input : Has S.given a → InputAtom S u a
  head_input : {v : ℕ} → Edge S u v → HeadAtom S v a → InputAtom S u a

-- "J cut to H(v)": K has the atoms of J that are in H(v), and no others
abbrev pub Cut : Units → ℕ → ℕ → ℕ → Type 0
Cut S v J K = Collects (λ a. Has J a × HeadAtom S v a) K

-- ---- as words

-- what a unit reaches once its paths may lead through unit k: w before, and what k reaches where it reaches k
unfoldable pub through : ℕ → ℕ → ℕ → ℕ
through w k middle = elim (has w k) [ true ↦ w ∪ middle | false ↦ w ]

-- the units that paths from u lead to whose inner units are below k
unfoldable pub reach_via : Units → ℕ → ℕ → ℕ
reach_via S zero u = S.predecessors u ∩ below S.units
reach_via S (suc k) u = through (reach_via S k u) k (reach_via S k k)

-- "u reaches each unit that a path along edges from u leads to"
unfoldable pub reach : Units → ℕ → ℕ
reach S u = reach_via S S.units u

-- the head atoms of the rules whose numbers are in the word
abbrev pub rule_heads : Units → ℕ → ℕ
rule_heads S which = union_in S.rules which (λ r. S.program.head r)

-- the head atoms of u's rules
unfoldable pub own : Units → ℕ → ℕ
own S u = rule_heads S (S.unit u)

-- "Write H(u) for the head atoms of u and of all units it reaches"; given atoms count in every H
unfoldable pub heads : Units → ℕ → ℕ
heads S u = S.given ∪ (own S u ∪ union_in S.units (reach S u) (λ v. own S v))

-- the "atoms of H(v) for direct predecessors v"
unfoldable pub input_heads : Units → ℕ → ℕ
input_heads S u = S.given ∪ union_in S.units (S.predecessors u) (λ v. heads S v)
