-- The first half of the uses wants tables true, the second half false.
use Rattle.answer_sets.proofs.Prelude.{needs}
use Rattle.answer_sets.proofs.Face.{table_first, table_second}
use Rattle.answer_sets.proofs.uses.used_table.Goals as goal

pub returns-then-i-lt-MAX_TABLES : goal.returns-then-i-lt-MAX_TABLES
returns-then-i-lt-MAX_TABLES c = search (table_first, needs)

pub returns-else-i-lt-MAX_TABLES : goal.returns-else-i-lt-MAX_TABLES
returns-else-i-lt-MAX_TABLES c = search (table_second, needs)
