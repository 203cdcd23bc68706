-- What the search finds of the unit is its list.
use Rattle.unit_lists.proofs.Prelude.{arith, needs, units_of}
use Rattle.unit_lists.proofs.Face.{searchable, unit_stored, unit_listable}
use Rattle.unit_lists.proofs.work.list_unit.Goals as goal

pub list_one-requires : goal.list_one-requires
list_one-requires c =
    let listable = unit_listable c.requires.0 c.args.u (omega arith) (omega arith) c.requires.1 c.requires.2 in
    search (searchable, listable, needs)

pub returns : goal.returns
unfolding units_of
returns c =
    let listable = unit_listable c.requires.0 c.args.u (omega arith) (omega arith) c.requires.1 c.requires.2 in
    let from = rw (c.requires.0.heads_of.heads_are c.args.u c.requires.1) at c.start_within-start.ensures in
    unit_stored listable c.unit_at-unit.ensures c.args.u from.1 from.0 c.list_one.ensures
