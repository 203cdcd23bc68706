-- The number of a fault fits the 16 bits above those of its spot.
use Rattle.plan.proofs.Prelude.{◌<◌, arith, number, CODE_STEP, Fault, TableShort, Truncated, UnknownCommand, OutOfOrder, TooMany, EmptyRule}
use Rattle.plan.proofs.Prelude.{AbsentRule, BadEdge, TrailingBytes, RuleInNoUnit, HeadedRuleInSeveral, Cycle, NonmonotonicUnseen, MonotonicUnseen}
use Rattle.plan.proofs.Prelude.{LongList, GivenInHead, BadTable, BadUse, ContradictoryBody, WrongCount}

pub number_fits : (f : Fault) → number f < CODE_STEP
number_fits (TableShort s) = omega arith
number_fits (Truncated s) = omega arith
number_fits (UnknownCommand s) = omega arith
number_fits (OutOfOrder s) = omega arith
number_fits (TooMany s) = omega arith
number_fits (EmptyRule s) = omega arith
number_fits (AbsentRule s) = omega arith
number_fits (BadEdge s) = omega arith
number_fits (TrailingBytes s) = omega arith
number_fits (RuleInNoUnit s) = omega arith
number_fits (HeadedRuleInSeveral s) = omega arith
number_fits (Cycle s) = omega arith
number_fits (NonmonotonicUnseen s) = omega arith
number_fits (MonotonicUnseen s) = omega arith
number_fits (LongList s) = omega arith
number_fits (GivenInHead s) = omega arith
number_fits (BadTable s) = omega arith
number_fits (BadUse s) = omega arith
number_fits (ContradictoryBody s) = omega arith
number_fits (WrongCount s) = omega arith
