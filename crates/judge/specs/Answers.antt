-- The answer to "The single-position question takes plan and position, can be refused only by the reading place, doesn't
-- look at the graph, and has no table."
use Rattle.std.specs.Prelude.{Bool, true, false, List, ℕ, Result, Ok, Err}
use Rattle.atoms.specs.Bounded.{Decides}
use Rattle.plan.specs.Faults.{refusal_code}
use Rattle.plan.specs.declared.fault.Fault.{Fault}
use Rattle.plan.specs.declared.record.Plan.{Plan}
use Rattle.plan_meaning.specs.Settled.{Settles, settled}
use Rattle.plan_meaning.specs.Asked.{asked, Answered}

-- whether the position is settled, or the fault for which the plan is refused
abbrev pub JudgeAnswer : Type 0
JudgeAnswer = Result Bool Fault

abbrev pub is_yes : JudgeAnswer → Bool
is_yes (Ok settled) = settled
is_yes (Err f) = false

-- the answer of a record
abbrev pub settled_in : ℕ → Plan → JudgeAnswer
settled_in position p = Ok (settled p position)

-- it is yes exactly if the position is an answer set of the whole program
abbrev pub SaysSettled : ℕ → Plan → JudgeAnswer → Type 0
SaysSettled position p answer = Decides (Settles p position) (is_yes answer)

-- the question for the bytes of a plan, by computing and by meaning
abbrev pub judged : List ℕ → ℕ → JudgeAnswer
judged bytes position = asked Err (settled_in position) bytes

abbrev pub Judged : List ℕ → ℕ → JudgeAnswer → Type 0
Judged bytes position answer = Answered Err (settled_in position) (SaysSettled position) bytes answer

-- the answer as one number
abbrev pub judge_code : JudgeAnswer → ℕ
judge_code (Ok true) = 1
judge_code (Ok false) = 0
judge_code (Err f) = refusal_code f
