-- The numbers and spots of faults. Document 01, "Faults, by where they are found": columns "no." and "spot"; from 16 on document 02.
use Rattle.std.specs.Prelude.{◌≡◌, List, [], ◌∷◌, ◌⊎◌, ℕ, ◌+◌, ◌*◌, ◌-◌, ◌^◌, min, Result, Ok, Err}
use Rattle.plan.specs.declared.fault.Fault.{Fault}
use Rattle.plan.specs.declared.fault.Fault.TheVariants.{TableShort, Truncated, UnknownCommand, OutOfOrder, TooMany}
use Rattle.plan.specs.declared.fault.Fault.TheVariants.{EmptyRule, AbsentRule, BadEdge, TrailingBytes}
use Rattle.plan.specs.declared.fault.Fault.TheVariants.{RuleInNoUnit, HeadedRuleInSeveral, Cycle, NonmonotonicUnseen, MonotonicUnseen, LongList}
use Rattle.plan.specs.declared.fault.Fault.TheVariants.{GivenInHead, BadTable, BadUse, ContradictoryBody, WrongCount}

-- a plan is accepted, or refused with its first fault
abbrev pub Outcome : Type 0
Outcome = Result (Unit {0}) Fault

abbrev pub Accepted : Outcome
Accepted = Ok tt

abbrev pub Refused : Fault → Outcome
Refused f = Err f

-- column "no."
abbrev pub number : Fault → ℕ
number (TableShort s) = 1
number (Truncated s) = 2
number (UnknownCommand s) = 3
number (OutOfOrder s) = 4
number (TooMany s) = 5
number (EmptyRule s) = 6
number (AbsentRule s) = 7
number (BadEdge s) = 8
number (TrailingBytes s) = 9
number (RuleInNoUnit s) = 10
number (HeadedRuleInSeveral s) = 11
number (Cycle s) = 12
number (NonmonotonicUnseen s) = 13
number (MonotonicUnseen s) = 14
number (LongList s) = 15
number (GivenInHead s) = 16
number (BadTable s) = 18
number (BadUse s) = 19
number (ContradictoryBody s) = 21
number (WrongCount s) = 23

-- column "spot"
abbrev pub spot : Fault → ℕ
spot (TableShort s) = s
spot (Truncated s) = s
spot (UnknownCommand s) = s
spot (OutOfOrder s) = s
spot (TooMany s) = s
spot (EmptyRule s) = s
spot (AbsentRule s) = s
spot (BadEdge s) = s
spot (TrailingBytes s) = s
spot (RuleInNoUnit s) = s
spot (HeadedRuleInSeveral s) = s
spot (Cycle s) = s
spot (NonmonotonicUnseen s) = s
spot (MonotonicUnseen s) = s
spot (LongList s) = s
spot (GivenInHead s) = s
spot (BadTable s) = s
spot (BadUse s) = s
spot (ContradictoryBody s) = s
spot (WrongCount s) = s

-- "A refusal gives its number and spot"
pub record RefusedBy (outcome : Outcome) (n s : ℕ) : Type 0 where
  pub fault : Fault
  pub is : outcome ≡ Refused fault
  pub number_is : number fault ≡ n
  pub spot_is : spot fault ≡ s

-- a row of the fault table: its number, when it fits, and its spot
pub record FaultRow : Type 1 where
  pub no : ℕ
  pub Fits : Type 0
  pub at : ℕ

-- "inside a place the first row that fits counts": n and s are the number and the spot of that row
abbrev pub FirstFit : List FaultRow → ℕ → ℕ → Type 0
FirstFit [] n s = ⊥
FirstFit (r ∷ rows) n s = (r.Fits × ((n ≡ r.no) × (s ≡ r.at))) ⊎ (¬ r.Fits × FirstFit rows n s)

-- a refusal as one number: its fault number above 16 bits for its spot
abbrev pub CODE_STEP : ℕ
CODE_STEP = 2 ^ 16

abbrev pub WIDEST_SPOT : ℕ
WIDEST_SPOT = CODE_STEP - 1

abbrev pub code_of : ℕ → ℕ → ℕ
code_of number spot = CODE_STEP * number + min WIDEST_SPOT spot

abbrev pub refusal_code : Fault → ℕ
refusal_code f = code_of (number f) (spot f)
