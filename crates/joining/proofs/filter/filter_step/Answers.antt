-- The list is looked at where its number is in the word.
use Rattle.joining.proofs.Prelude.{needs, arith}
use Rattle.joining.proofs.Face.{step_narrows, step_filtered}
use Rattle.atoms.proofs.Singles.{numbered_by}
use Rattle.joining.proofs.filter.filter_step.Goals as goal

pub join_step-requires : goal.join_step-requires
join_step-requires c = (
  c.requires.0.table_long c.args.v (numbered_by _ _ c.single.ensures c.are_apart.ensures c.if-are_apart.false),
  omega (arith, c.requires.1, c.requires.2.long),
)

pub returns : goal.returns
returns c = search (numbered_by, step_narrows, step_filtered, needs)
