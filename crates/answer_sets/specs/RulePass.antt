-- Inner: what the steps of the rule pass ask of a position, and what they do to a state.
use Rattle.std.specs.Prelude.{◌≡◌, Bool, true, ◌↔◌, List, ℕ}
use Rattle.atoms.specs.Word.{Has, ◌⊆◌}
use Rattle.answer_sets.specs.Program.{Program, Satisfies, SatisfiesAll}
use Rattle.answer_sets.specs.Lent.{lent}
use Rattle.states.specs.State.{Completes, half_decided}
use Rattle.states.specs.Narrowing.{Overlaps, Narrows}
use Rattle.states.specs.declared.state.State.{State}
use Rattle.answer_sets.specs.declared.rule_pass.Passed.{Passed}
use Rattle.answer_sets.specs.Known.{Part, PartHolds, InBody}

-- the answer says whether every part of rule r's body is true in every completion
pub record HeldInAll (rules : List ℕ) (r up dropped : ℕ) (answer : Bool) : Type 0 where
  pub exactly : (answer ≡ true) ↔ ((p : Part) → InBody rules r p → (N : ℕ) → Completes (half_decided up dropped) N → PartHolds rules r p N)

-- the state after rule r. S-7: "The search goes no further where some rule's body holds and all its head atoms are dropped": there an
-- atom is both up and dropped afterwards, so that nothing completes the state
pub record RuleStepped (rules : List ℕ) (r : ℕ) (s t : State) : Type 0 where
  pub narrows : Narrows (Satisfies (lent rules) r) s t
  pub stops : HeldInAll rules r s.up s.dropped true → (lent rules).head r ⊆ s.dropped → Overlaps t

-- every completion of the state satisfies rule r
pub record AlwaysSatisfied (P : Program) (r : ℕ) (s : State) : Type 0 where
  pub each : (N : ℕ) → Completes s N → Satisfies P r N

-- after a round over the rules of `which`: the state, and what is left of a word, from which only rules are gone that are met
pub record Sifted (P : Program) (which : ℕ) (s : State) (word : ℕ) (p : Passed) : Type 0 where
  pub narrows : Narrows (SatisfiesAll P which) s p.state
  pub part : p.left ⊆ word
  pub gone : (r : ℕ) → Has word r → ¬ Has p.left r → AlwaysSatisfied P r p.state
