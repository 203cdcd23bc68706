-- `with_table` meets its contract: the words stand where the definition puts them.
use Rattle.plan.proofs.Prelude.{with_table, needs}
use Rattle.plan.proofs.record.with_table.Goals as goal

pub returns : goal.returns
unfolding with_table
returns c = search needs
