-- The graph conditions, sentence by sentence (document 01, Graph). A rule's dependence on itself is ignored, by number.
use Rattle.std.specs.Prelude.{◌≡◌, ◌⊎◌, ℕ, ◌<◌}
use Rattle.atoms.specs.Word.{Has}
use Rattle.dependency_graph.specs.Units.{Units, Holds, Edge, Path, GivenFree}

-- the two words share an atom
pub record Share (a b : ℕ) : Type 0 where
  pub atom : ℕ
  pub left : Has a atom
  pub right : Has b atom

-- "r depends nonmonotonically on s if a negative body atom of r is in the head of s"; S-4: "A rule depends nonmonotonically on each
-- rule heading an input atom of a table it uses, whichever the sign."
pub record Nonmonotonic (S : Units) (r s : ℕ) : Type 0 where
  pub other : ¬ (r ≡ s)
  pub shared : Share (S.looks r) (S.program.head s)

-- "It depends monotonically if a positive body atom of r is in the head of s, or the two heads share an atom."
pub record Monotonic (S : Units) (r s : ℕ) : Type 0 where
  pub other : ¬ (r ≡ s)
  pub shared : Share (S.program.positive r) (S.program.head s) ⊎ Share (S.program.head r) (S.program.head s)

-- "holds s or has an edge to the unit of s"
abbrev pub Sees : Units → ℕ → ℕ → Type 0
Sees S u s = Holds S u s ⊎ ((v : ℕ) × Edge S u v × Holds S v s)

-- "(a) each rule is in at least one unit"
pub record ConditionA (S : Units) : Type 0 where
  pub placed : (r : ℕ) → r < S.rules → (u : ℕ) × Holds S u r

-- "(b) each rule with a head is in just one"
pub record ConditionB (S : Units) : Type 0 where
  pub one : (r a u v : ℕ) → Has (S.program.head r) a → Holds S u r → Holds S v r → u ≡ v

-- "(acyclic) no path along edges returns to its start"
pub record Acyclic (S : Units) : Type 0 where
  pub no_return : (u : ℕ) → ¬ Path S u u

-- "(c) if r depends nonmonotonically on s, every unit that holds r holds s or has an edge to the unit of s"
pub record ConditionC (S : Units) : Type 0 where
  pub seen : (r s u : ℕ) → s < S.rules → Nonmonotonic S r s → Holds S u r → Sees S u s

-- "(d) each rule r is in at least one unit such that, for all monotonic dependences of r together, that unit holds s or has an edge to the unit of s"
pub record ConditionD (S : Units) : Type 0 where
  pub covered : (r : ℕ) → r < S.rules → (u : ℕ) × Holds S u r × ((s : ℕ) → s < S.rules → Monotonic S r s → Sees S u s)

-- a graph passes: all conditions hold
pub record Passes (S : Units) : Type 0 where
  pub given_free : GivenFree S
  pub a : ConditionA S
  pub b : ConditionB S
  pub acyclic : Acyclic S
  pub c : ConditionC S
  pub d : ConditionD S
