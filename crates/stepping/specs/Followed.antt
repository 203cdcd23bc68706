-- One position after the other (document 02, S-8): "Given a plan and either "from the start" or a position, return the least answer set above
-- it, or that none is left. .. It has the reading refusals only."
use Rattle.std.specs.Prelude.{Bool, true, false, List, ℕ, suc, ◌≤◌, ltb, Option, None, Some, Result, Ok, Err}
use Rattle.atoms.specs.Word.{◌∪◌, below}
use Rattle.atoms.specs.Bounded.{union_in}
use Rattle.atoms.specs.Collected.{lowest}
use Rattle.answer_sets.specs.Lent.{lent}
use Rattle.plan.specs.Faults.{refusal_code}
use Rattle.plan.specs.declared.fault.Fault.{Fault}
use Rattle.plan.specs.declared.record.Plan.{Plan}
use Rattle.plan_meaning.specs.Settled.{Settles, settled}
use Rattle.plan_meaning.specs.Asked.{asked, Answered}
use Rattle.finding.specs.Least.{Behind}

-- "the least answer set above it, or that none is left": N is any number
pub data Follows (p : Plan) (from : Option ℕ) : Result (Option ℕ) Fault → Type 0 where
  position : {M : ℕ} → Settles p M → Behind from M → ((N : ℕ) → Settles p N → Behind from N → M ≤ N) → Follows p from (Ok (Some M))
  none_left : ((N : ℕ) → Settles p N → ¬ Behind from N) → Follows p from (Ok None)

-- the atoms that may be up: those that are given, and those in heads
abbrev pub may_be_up : Plan → ℕ
may_be_up p = p.once.given.word ∪ union_in p.rule_count (below p.rule_count) (λ r. (lent p.rules).head r)

-- `Behind`, computed
abbrev pub behind : Option ℕ → ℕ → Bool
behind None M = true
behind (Some p) M = ltb p M

-- an answer set that is behind, computed
abbrev pub settled_behind : Plan → Option ℕ → ℕ → Bool
settled_behind p from M = elim (behind from M) [ true ↦ settled p M | false ↦ false ]

-- the lowest such number; none is above the word of the atoms that may be up
unfoldable pub next_in : Plan → Option ℕ → Option ℕ
next_in p from =
    let M = lowest (suc (may_be_up p)) (settled_behind p from) in
    elim (ltb M (suc (may_be_up p))) [ true ↦ Some M | false ↦ None ]

-- the question for the bytes of a plan, by computing and by meaning
abbrev pub followed : List ℕ → Option ℕ → Result (Option ℕ) Fault
followed bytes from = asked Err (λ p. Ok (next_in p from)) bytes

abbrev pub Followed : List ℕ → Option ℕ → Result (Option ℕ) Fault → Type 0
Followed bytes from r = Answered Err (λ p. Ok (next_in p from)) (λ p. Follows p from) bytes r

-- the result as one number, beside the position
abbrev pub next_code : Result (Option ℕ) Fault → ℕ
next_code (Ok (Some M)) = 1
next_code (Ok None) = 0
next_code (Err f) = refusal_code f
