-- Reading a whole plan: its record, or the first fault from the left.
use Rattle.std.specs.Prelude.{List, [], ◌∷◌, ℕ, zero, suc, ◌+◌, ◌*◌, Result, Ok, Err}
use Rattle.plan.specs.Record.{empty_plan, with_count, with_given, with_table, with_rule, with_use, with_unit, with_edge, with_show}
use Rattle.reading.specs.Commands.{Kind, single, sizes, given, show, table, rule, usage, unit, edge, kinds, operand_bytes, command_at}
use Rattle.reading.specs.Commands.{Most, once, up_to, runs_out_at, most_of}
use Rattle.plan.specs.declared.record.Plan.{Plan}
use Rattle.reading.specs.declared.command.Command.{Command}
use Rattle.reading.specs.declared.command.Command.TheVariants.{Count, Given, Table, Rule, Use, Unit as UnitOf, Edge, Show, End, Fault as Faulty}
use Rattle.plan.specs.declared.fault.Fault.{Fault}
use Rattle.plan.specs.Faults.{Accepted, Outcome, Refused}

-- what reading gives: the outcome and the record, which is empty on a refusal
pub record ReadPlan : Type 0 where
  pub outcome : Outcome
  pub plan : Plan

abbrev pub accepted : Plan → ReadPlan
accepted p = record { outcome = Accepted; plan = p }

-- a refusal has no record but the empty one
abbrev pub refused : Fault → ReadPlan
refused f = record { outcome = Refused f; plan = empty_plan }

-- the record of an accepted plan, or the fault of a refused one, as functions hand it out
abbrev pub as_read : Result Plan Fault → ReadPlan
as_read (Ok p) = accepted p
as_read (Err f) = refused f

-- a command of this kind, in bytes
abbrev pub command_bytes : Kind → ℕ
command_bytes kind = suc (operand_bytes kind)

-- what a command does to the record p: reading goes on behind its operands with the record that has it too, or reading ends
pub data Step : Type 0 where
  onward : Kind → Plan → Step
  ended : ReadPlan → Step

abbrev pub step_of : Plan → Command → Step
step_of p (Count rules units edges) = onward (single sizes) (with_count p rules units edges)
step_of p (Given word) = onward (single given) (with_given p word)
step_of p (Table inputs truth) = onward table (with_table p inputs truth)
step_of p (Rule head positive negative) = onward rule (with_rule p head positive negative)
step_of p (Use r t sign) = onward usage (with_use p r t sign)
step_of p (UnitOf word) = onward unit (with_unit p word)
step_of p (Edge u v) = onward edge (with_edge p u v)
step_of p (Show word) = onward (single show) (with_show p word)
step_of p End = ended (accepted p)
step_of p (Faulty f) = ended (refused f)

-- reading on, once p is read: the next command stands at `at`, behind `skip` bytes of operands that are read already
unfoldable pub walk : Plan → ℕ → ℕ → List ℕ → ReadPlan
walk p at skip [] = refused (Fault.Truncated at)
walk p at (suc skip) (b ∷ rest) = walk p at skip rest
walk p at zero (b ∷ rest) =
    elim (step_of p (command_at p at (b ∷ rest))) [
      | onward kind q ↦ walk q (at + command_bytes kind) (operand_bytes kind) rest
      | ended r ↦ r
    ]

-- "reading, from the left"
unfoldable pub reading : List ℕ → ReadPlan
reading bytes = walk empty_plan 0 0 bytes

-- the number in column "most"
abbrev pub most_commands : Most → ℕ
most_commands once = 1
most_commands (up_to n) = n
most_commands (runs_out_at n) = n

-- the bytes of as many commands of these kinds as there may be
abbrev pub most_bytes : List Kind → ℕ
most_bytes [] = 0
most_bytes (kind ∷ kinds) = command_bytes kind * most_commands (most_of kind) + most_bytes kinds

-- "The longest plan has 2,465 bytes", 9 more with a GIVEN, 1,296 more with all TABLEs and USEs, 9 more with a SHOW, and 4 more
-- with a COUNT
abbrev pub LONGEST_PLAN : ℕ
LONGEST_PLAN = most_bytes kinds

-- "every reading fault, a 241st EDGE and bytes after END included, shows within 2,467", and as many more; behind a SHOW it shows within one
-- byte after END
abbrev pub DECIDING_BYTES : ℕ
DECIDING_BYTES = LONGEST_PLAN + 1
