-- Inner: support, through which rule an atom is up; and what the support step asks of a position.
use Rattle.std.specs.Prelude.{◌≡◌, Bool, false, List, ℕ}
use Rattle.atoms.specs.Word.{Has, ◌⊆◌}
use Rattle.answer_sets.specs.Program.{Program, Body}
use Rattle.answer_sets.specs.Lent.{lent}
use Rattle.states.specs.State.{Completes}
use Rattle.states.specs.declared.state.State.{State}

-- rule r supports atom a in M: its body holds without a, and a is the one head atom that is up
pub record Supports (P : Program) (r M a : ℕ) : Type 0 where
  pub holds : Body P r M
  pub in_head : Has (P.head r) a
  pub not_positive : ¬ Has (P.positive r) a
  pub only : (b : ℕ) → Has (P.head r) b → Has M b → b ≡ a

-- where the answer is no, rule r supports atom a at no completion
pub record Excluded (rules : List ℕ) (r a : ℕ) (s : State) (may : Bool) : Type 0 where
  pub never : may ≡ false → (M : ℕ) → Completes s M → ¬ Supports (lent rules) r M a

-- rules of the word, and among them each that supports atom a at some completion
pub record Supporters (rules : List ℕ) (backing a : ℕ) (s : State) (w : ℕ) : Type 0 where
  pub within : w ⊆ backing
  pub every : (r M : ℕ) → Has backing r → Completes s M → Supports (lent rules) r M a → Has w r

-- where atom a is up, a rule of the word supports it
pub record SupportedIfUp (rules : List ℕ) (backing a M : ℕ) : Type 0 where
  pub held : Has M a → (r : ℕ) × Has backing r × Supports (lent rules) r M a
