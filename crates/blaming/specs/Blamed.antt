-- The few constraints that empty a plan (document 02, S-13): "When a plan has no position, its designer wants a small group of constraints to blame. ..
-- A plan with a position gets that answer instead, with the least one, uncut. Only the reading refusals apply".
use Rattle.std.specs.Prelude.{◌≡◌, Bool, true, false, ◌↔◌, List, ℕ, zero, suc, ◌≤◌, ◌<◌, eqb}
use Rattle.std.specs.Prelude.{None, Some, Result, Ok, Err}
use Rattle.atoms.specs.Word.{Has, has, ◌∪◌, ◌∖◌, atom, below}
use Rattle.atoms.specs.Bounded.{some_below, word_below}
use Rattle.atoms.specs.Collected.{Collects}
use Rattle.answer_sets.specs.AnswerSet.{AnswerSet}
use Rattle.answer_sets.specs.Lent.{lent}
use Rattle.answer_sets.specs.Test.{answer_set}
use Rattle.plan.specs.Faults.{refusal_code}
use Rattle.plan.specs.declared.fault.Fault.{Fault}
use Rattle.plan.specs.declared.record.Plan.{Plan}
use Rattle.reading.specs.Reading.{reading}
use Rattle.reading.specs.Layout.{RuleWords, Contents, Lays, record_of}
use Rattle.plan_meaning.specs.Meaning.{Number}
use Rattle.plan_meaning.specs.AnswerSets.{AnswerSetOf}
use Rattle.plan_meaning.specs.Settled.{Settles}
use Rattle.plan_meaning.specs.Read.{ReadMeans}
use Rattle.plan_meaning.specs.Asked.{asked, Answered}
use Rattle.stepping.specs.Followed.{may_be_up, next_in}
use Rattle.blaming.specs.declared.Blame.{Blame}
use Rattle.blaming.specs.declared.Blame.TheVariants.{Position, Held}

-- ---- by meaning

-- "A rule with an empty head is a constraint."
pub record Constraint (p : Plan) (r : ℕ) : Type 0 where
  pub rule : r < p.rule_count
  pub headless : (lent p.rules).head r ≡ 0

-- "exactly these constraints .. and all headed rules": rule r is among them, where the constraints are those of w
pub data Among (p : Plan) (w r : ℕ) : Type 0 where
  headed_rule : r < p.rule_count → ¬ ((lent p.rules).head r ≡ 0) → Among p w r
  constraint : Constraint p r → Has w r → Among p w r

-- "with exactly these constraints, the given facts and all headed rules there is no answer set"
pub record Empties (p : Plan) (w : ℕ) : Type 0 where
  pub which : ℕ
  pub rules_are : Collects (Among p w) which
  pub none : (M : ℕ) → ¬ AnswerSet (lent p.rules) which p.once.given.word M

-- "there is one"
pub record LeavesOne (p : Plan) (w : ℕ) : Type 0 where
  pub which : ℕ
  pub rules_are : Collects (Among p w) which
  pub position : ℕ
  pub answers : AnswerSet (lent p.rules) which p.once.given.word position

-- "Start with all; going up by rule number": where c is tried, the others still held are those below it that stay in w, and all above it
pub data StillHeld (p : Plan) (w c d : ℕ) : Type 0 where
  stays : d < c → Has w d → StillHeld p w c d
  untried : c < d → Constraint p d → StillHeld p w c d

-- "drop a constraint if the others still held leave no answer set"
pub record TriedConstraint (p : Plan) (w c : ℕ) : Type 0 where
  pub others : ℕ
  pub others_are : Collects (StillHeld p w c) others
  pub dropped : ¬ Has w c → Empties p others
  pub kept : Has w c → LeavesOne p others

-- "Return the word of what is held": it is that of the pass, no answer set is left, "and without any one of these constraints there is one"
pub record Blames (p : Plan) (w : ℕ) : Type 0 where
  pub constraints : (c : ℕ) → Has w c → Constraint p c
  pub pass : (c : ℕ) → Constraint p c → TriedConstraint p w c
  pub empties : Empties p w
  pub each : (c : ℕ) → Has w c → LeavesOne p (w ∖ atom c)

-- no position is an answer set of the whole program
pub record Positionless (p : Plan) : Type 0 where
  pub none : (M : ℕ) → ¬ Settles p M

-- the least answer set, uncut, or what is blamed where there is none
pub data LeastOrBlamed (p : Plan) : Result Blame Fault → Type 0 where
  with_position : {M : ℕ} → Settles p M → ((N : ℕ) → Settles p N → M ≤ N) → LeastOrBlamed p (Ok (Position M))
  without : {w : ℕ} → Positionless p → Blames p w → LeastOrBlamed p (Ok (Held w))

-- ---- computed

-- the constraints
abbrev pub constraints_in : Plan → ℕ
constraints_in p = word_below p.rule_count (λ r. eqb ((lent p.rules).head r) 0)

-- all headed rules and the constraints of w
abbrev pub rules_with : Plan → ℕ → ℕ
rules_with p w = (below p.rule_count ∖ constraints_in p) ∪ w

-- they leave an answer set; none is above the word of the atoms that may be up
unfoldable pub leaves : Plan → ℕ → Bool
leaves p w = some_below (suc (may_be_up p)) (λ M. answer_set (lent p.rules) (rules_with p w) p.once.given.word M)

-- constraint c is tried
abbrev pub tried : (ℕ → Bool) → ℕ → ℕ → ℕ
tried test held c = elim (test (held ∖ atom c)) [ true ↦ held | false ↦ held ∖ atom c ]

-- what is held of all when those below a number are tried, where `test` says whether words of constraints leave an answer set
unfoldable pub passed : (ℕ → Bool) → ℕ → ℕ → ℕ
passed test all zero = all
passed test all (suc c) = elim (has all c) [ true ↦ tried test (passed test all c) c | false ↦ passed test all c ]

-- the word of what is held in the end
unfoldable pub held_in : Plan → ℕ
held_in p = passed (leaves p) (constraints_in p) p.rule_count

-- S-8's answer from the start, or the word
unfoldable pub blame_in : Plan → Blame
blame_in p = elim (next_in p None) [ Some M ↦ Position M | None ↦ Held (held_in p) ]

-- for the bytes of a plan
abbrev pub blamed : List ℕ → Result Blame Fault
blamed bytes = asked Err (λ p. Ok (blame_in p)) bytes

-- ---- of the plan's lists

-- "exactly these constraints .. and all headed rules": rule r is among them, where the constraints are those of w
pub data AmongRules (c : Contents) (w r : ℕ) : Type 0 where
  headed : {x : RuleWords} {a : ℕ} → Number c.rules r x → Has x.head a → AmongRules c w r
  held : {x : RuleWords} → Number c.rules r x → x.head ≡ 0 → Has w r → AmongRules c w r

-- the constraints of the record are those of the lists, and what leaves no answer set or one does so with the lists' rules and given facts
pub record ConstraintsMean (c : Contents) (p : Plan) : Type 0 where
  pub constraint : (r : ℕ) → Constraint p r ↔ ((x : RuleWords) × Number c.rules r x × (x.head ≡ 0))
  pub empties : (w : ℕ) → Empties p w → (M : ℕ) → ¬ AnswerSetOf c (AmongRules c w) M
  pub leaves : (w : ℕ) → LeavesOne p w → (M : ℕ) × AnswerSetOf c (AmongRules c w) M

-- of the record of a plan's lists, and of what was read
pub record BlameMeans (bytes : List ℕ) : Type 0 where
  pub positions : ReadMeans bytes
  pub of_lists : (c : Contents) → Lays bytes c → ConstraintsMean c (record_of c)
  pub of_read : (c : Contents) → Lays bytes c → ConstraintsMean c (reading bytes).plan

-- ---- the contract

-- The result equals the definition. By meaning: the fault that reading found, or what is said of the plan. Its rules and facts are those of its lists
pub record Blamed (bytes : List ℕ) (r : Result Blame Fault) : Type 0 where
  pub answered : Answered Err (λ p. Ok (blame_in p)) LeastOrBlamed bytes r
  pub meaning : BlameMeans bytes

-- the result as one number, beside the word
abbrev pub blame_code : Result Blame Fault → ℕ
blame_code (Ok (Position M)) = 1
blame_code (Ok (Held w)) = 0
blame_code (Err f) = refusal_code f
