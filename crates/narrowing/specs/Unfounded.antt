-- Inner: atoms that no rule needs: an answer set without them would still satisfy its kept rules, so that it has none of them.
use Rattle.std.specs.Prelude.{List, ℕ}
use Rattle.atoms.specs.Word.{Has, ◌∖◌}
use Rattle.answer_sets.specs.Program.{Body}
use Rattle.answer_sets.specs.Lent.{lent}
use Rattle.states.specs.State.{Completes}
use Rattle.states.specs.declared.state.State.{State}

-- rule r can do without the atoms of x: where its body holds at a completion, and at the completion without x too, and the completion has a head
-- atom, it has one outside x
pub record Spares (rules : List ℕ) (r x : ℕ) (s : State) : Type 0 where
  pub other : (M : ℕ) → Completes s M → Body (lent rules) r M → Body (lent rules) r (M ∖ x) → (a : ℕ) → Has ((lent rules).head r) a → Has M a
      → (b : ℕ) × Has ((lent rules).head r) b × Has (M ∖ x) b

-- so can each numbered rule
pub record Unfounded (rules : List ℕ) (which x : ℕ) (s : State) : Type 0 where
  pub each : (r : ℕ) → Has which r → Spares rules r x s
