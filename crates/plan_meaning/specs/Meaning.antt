-- What the lists of a plan mean, by the sentences of documents 01 and 02 and apart from the record: its rules, facts, units, edges and what shows.
use Rattle.std.specs.Prelude.{◌≡◌, true, ◌↔◌, ℕ, zero, suc, ◌<◌, length, get_or}
use mathlib.Core.List.{List, ◌∷◌, Memᴰ}
use Rattle.atoms.specs.Word.{ATOMS, Has, Apart}
use Rattle.plan.specs.declared.record.Plan.{Plan}
use Rattle.reading.specs.Kinds.{given, show}
use Rattle.reading.specs.Layout.{TableWords, RuleWords, TableUse, UnitPair, Contents}
use Rattle.answer_sets.specs.Program.{Program}
use Rattle.answer_sets.specs.Lent.{lent, looks}
use Rattle.plan_meaning.specs.Tables.{TrueAt}

-- "numbered from 0 as they come": x is number i of the list
pub data Number {A : Type 0} : List A → ℕ → A → Type 0 where
  first : {x : A} {xs : List A} → Number (x ∷ xs) zero x
  later : {y x : A} {xs : List A} {i : ℕ} → Number xs i x → Number (y ∷ xs) (suc i) x

-- S-4: "rule, table, and 0 for must be true or 1 for must be false": the use holds at M
pub record UseHolds (c : Contents) (x : TableUse) (M : ℕ) : Type 0 where
  pub must_be_true : x.sign ≡ 0 → (t : TableWords) → Number c.tables x.table t → TrueAt t M
  pub must_be_false : x.sign ≡ 1 → (t : TableWords) → Number c.tables x.table t → ¬ TrueAt t M

-- what a body asks besides its positive atoms: "M has .. no negative one"; S-4: "and all its uses hold"
pub record RestHolds (c : Contents) (r : ℕ) (w : RuleWords) (M : ℕ) : Type 0 where
  pub negative : Apart w.negative M
  pub uses : (x : TableUse) → Memᴰ x c.uses → x.rule ≡ r → UseHolds c x M

-- what the rest of a body looks at: a negative atom, or S-4: "an input atom of a table it uses, whichever the sign"
pub data LooksAt (c : Contents) (r : ℕ) (w : RuleWords) (a : ℕ) : Type 0 where
  negative : Has w.negative a → LooksAt c r w a
  input : (x : TableUse) (t : TableWords) → Memᴰ x c.uses → x.rule ≡ r → Number c.tables x.table t → Has t.inputs a
      → LooksAt c r w a

-- "A rule has three sets: head, positive body, negative body", and its uses
pub record RuleMeans (c : Contents) (P : Program) (r : ℕ) (w : RuleWords) : Type 0 where
  pub head : P.head r ≡ w.head
  pub positive : P.positive r ≡ w.positive
  pub rest : (M : ℕ) → (P.rest r M ≡ true) ↔ RestHolds c r w M

-- the record is that of the lists, field by field
pub record Means (c : Contents) (p : Plan) : Type 0 where
  pub rule_count_is : p.rule_count ≡ length c.rules
  pub rule : (r : ℕ) (w : RuleWords) → Number c.rules r w → RuleMeans c (lent p.rules) r w
  pub looks_at : (r : ℕ) (w : RuleWords) → Number c.rules r w → (a : ℕ) → Has (looks p.rules r) a ↔ LooksAt c r w a
  -- S-1: "Its atoms are facts of the whole program"
  pub given : (a : ℕ) → Has p.once.given.word a ↔ ((word : ℕ) × Memᴰ word (c.once given) × Has word a)
  pub unit_count_is : p.unit_count ≡ length c.units
  -- "UNIT: one word, bit i for rule i"
  pub unit : (u word : ℕ) → Number c.units u word → get_or p.units u 0 ≡ word
  -- "Edge (u,v) says that unit u depends on unit v"
  pub edge : (u v : ℕ) → u < length c.units
      → Has (get_or p.predecessors u 0) v ↔ ((e : UnitPair) × Memᴰ e c.edges × (e.u ≡ u) × (e.v ≡ v))
  -- S-11: "without it all 64 atoms show"
  pub shown : (a : ℕ) → a < ATOMS → Has p.once.shown.word a ↔ ((word : ℕ) → Memᴰ word (c.once show) → Has word a)
