-- The answer sets of a plan's lists (document 01, Terms and Answer sets; 02, S-1 and S-4), apart from the record and from the words that programs are lent as.
use mathlib.Core.List.{Memᴰ}
use Rattle.std.specs.Prelude.{ℕ}
use Rattle.atoms.specs.Word.{Has, ◌⊆◌, ◌⊂◌}
use Rattle.reading.specs.Kinds.{given}
use Rattle.reading.specs.Layout.{RuleWords, Contents}
use Rattle.plan_meaning.specs.Meaning.{Number, RestHolds}

-- "Its body holds at M if M has every positive atom and no negative one"; S-4: "A body holds if its words and all its uses hold"
pub record BodyHolds (c : Contents) (r : ℕ) (w : RuleWords) (M : ℕ) : Type 0 where
  pub positive : w.positive ⊆ M
  pub rest : RestHolds c r w M

-- "M satisfies the rule if the body fails or M has a head atom."
pub record RuleSatisfied (c : Contents) (r : ℕ) (w : RuleWords) (M : ℕ) : Type 0 where
  pub head_up : BodyHolds c r w M → (a : ℕ) × Has w.head a × Has M a

-- N satisfies the facts and each of these rules that the reduct at M keeps: "the reduct at M keeps the rules whose body holds at M"; S-1: GIVEN's "atoms are
-- facts of the whole program"
pub record KeptModel (c : Contents) (These : ℕ → Type 0) (M N : ℕ) : Type 0 where
  pub given_up : (word : ℕ) → Memᴰ word (c.once given) → word ⊆ N
  pub each : (r : ℕ) (w : RuleWords) → Number c.rules r w → These r → BodyHolds c r w M → RuleSatisfied c r w N

-- "M is an answer set exactly if M satisfies all kept rules and no proper subset of M does.": of these rules and the given facts
pub record AnswerSetOf (c : Contents) (These : ℕ → Type 0) (M : ℕ) : Type 0 where
  pub model : KeptModel c These M M
  pub minimal : (N : ℕ) → N ⊂ M → ¬ KeptModel c These M N

-- "The whole program is all rules of the plan as one set", and "rules plus given facts" (02, S-1)
abbrev pub PlanAnswerSet : Contents → ℕ → Type 0
PlanAnswerSet c M = AnswerSetOf c (λ r. Unit {0}) M
