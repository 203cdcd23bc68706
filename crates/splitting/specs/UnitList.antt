-- Inputs and unit lists by document 01's sentence, the one more unit whose list is the last, and what it is to agree on a unit.
use Rattle.std.specs.Prelude.{◌≡◌, true, false, ◌↔◌, ℕ, suc, ◌<◌, eqb}
use Rattle.atoms.specs.Word.{Has, ◌⊆◌, ◌∩◌, below}
use Rattle.answer_sets.specs.Program.{Program}
use Rattle.answer_sets.specs.AnswerSet.{AnswerSet}
use Rattle.dependency_graph.specs.Units.{Units, Holds, Edge, Path}
use Rattle.dependency_graph.specs.Heads.{InputAtom, Cut}

-- "A position J is an input of u if J has only atoms of H(v) for direct predecessors v, and J cut to H(v) is in v's list for each such v.
-- .. The list of u holds M exactly if, for some input J, M is an answer set of u's rules with J's atoms added as facts."
-- `cut v` is J cut to H(v). Given atoms belong to every unit's input; a unit without predecessors has the given atoms as its one input.
pub data Listed (S : Units) : ℕ → ℕ → Type 0 where
  listed : {u M J : ℕ} {cut : ℕ → ℕ} → S.given ⊆ J → ((a : ℕ) → Has J a → InputAtom S u a)
      → ((v : ℕ) → Edge S u v → Cut S v J (cut v)) → ((v : ℕ) → Edge S u v → Listed S v (cut v))
      → AnswerSet S.program (S.unit u ∩ below S.rules) J M → Listed S u M

-- "The last list is that of one more unit, with no rules and an edge to every unit; its number is the count of units."
unfoldable pub with_last : Units → Units
with_last S = record {
  program = S.program;
  looks = S.looks;
  rules = S.rules;
  units = suc S.units;
  unit = λ u. elim (eqb u S.units) [ true ↦ 0 | false ↦ S.unit u ];
  predecessors = λ u. elim (eqb u S.units) [ true ↦ below S.units | false ↦ S.predecessors u ];
  given = S.given;
  shown = S.shown;
}

-- each predecessor that a unit names is there
pub record Clean (S : Units) : Type 0 where
  pub there : (u v : ℕ) → u < S.units → Has (S.predecessors u) v → v < S.units

-- rule r of P and rule s of Q are the same but for their numbers
pub record SameRule (P Q : Program) (r s : ℕ) : Type 0 where
  pub head : P.head r ≡ Q.head s
  pub positive : P.positive r ≡ Q.positive s
  pub rest : (M : ℕ) → P.rest r M ≡ Q.rest s M

-- unit w has the same rules and edges in both
pub record SameUnit (S T : Units) (w : ℕ) : Type 0 where
  pub there : (r : ℕ) → Holds S w r → (s : ℕ) × Holds T w s × SameRule S.program T.program r s
  pub back : (s : ℕ) → Holds T w s → (r : ℕ) × Holds S w r × SameRule S.program T.program r s
  pub edges : (v : ℕ) → Edge S w v ↔ Edge T w v

-- "A unit's list depends on its own rules and on those it reaches: two accepted plans that agree there (same unit numbers, rules and edges) .."
pub record Agree (S T : Units) (u : ℕ) : Type 0 where
  pub given : S.given ≡ T.given
  pub here : SameUnit S T u
  pub reached : (w : ℕ) → Path S u w → SameUnit S T w

-- "Plans agree on the last list only with the same SHOW." (02, S-11)
pub record AgreeLast (S T : Units) : Type 0 where
  pub units : S.units ≡ T.units
  pub shown : S.shown ≡ T.shown
  pub agree : Agree (with_last S) (with_last T) S.units
