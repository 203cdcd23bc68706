-- `read_command` meets its contract: the byte at `at` picks the kind, and the part behind it is what `command_at` calls the operands.
use Rattle.reading.proofs.Prelude.{single, sizes, given, show, table, rule, usage, unit, edge, end, needs}
use Rattle.reading.proofs.Face.{no_byte_there, kind_there, no_kind_there}
use Rattle.reading.proofs.dispatch.read_command.Goals as goal

pub returns-then-plan-at : goal.returns-then-plan-at
returns-then-plan-at c = search (no_byte_there, needs)

pub returns-in-7 : goal.returns-in-7
returns-in-7 c = search (kind_there, needs)

pub returns-in-4 : goal.returns-in-4
returns-in-4 c = search (kind_there, needs)

pub returns-in-5 : goal.returns-in-5
returns-in-5 c = search (kind_there, needs)

pub returns-in-1 : goal.returns-in-1
returns-in-1 c = search (kind_there, needs)

pub returns-in-6 : goal.returns-in-6
returns-in-6 c = search (kind_there, needs)

pub returns-in-2 : goal.returns-in-2
returns-in-2 c = search (kind_there, needs)

pub returns-in-3 : goal.returns-in-3
returns-in-3 c = search (kind_there, needs)

pub returns-in-8 : goal.returns-in-8
returns-in-8 c = search (kind_there, needs)

pub returns-in-0 : goal.returns-in-0
returns-in-0 c = search (kind_there, needs)

pub returns-in_default : goal.returns-in_default
returns-in_default c =
    no_kind_there _ _ _ c.if-plan-at.false
    (elim [
      | single sizes ↦ search needs
      | single given ↦ search needs
      | table ↦ search needs
      | rule ↦ search needs
      | usage ↦ search needs
      | unit ↦ search needs
      | edge ↦ search needs
      | single show ↦ search needs
      | end ↦ search needs
    ])
