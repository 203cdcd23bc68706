-- What the search finds of the one more unit is the last list.
use Rattle.unit_lists.proofs.Prelude.{◌∙◌, arith, needs, LAST_COUNT, units_of, with_last, last_list_of}
use Rattle.unit_lists.proofs.Face.{searchable, cuts_stored, last_listable, heads_of_last}
use Rattle.unit_lists.proofs.work.list_last.Goals as goal

pub list_one-requires : goal.list_one-requires
list_one-requires c =
    let listable = last_listable c.requires.0 (omega arith) (omega arith) c.requires.1 in
    (searchable listable c.last_unit-unit.ensures, search needs, search needs)

pub returns : goal.returns
unfolding last_list_of units_of with_last
returns c =
    let listable = last_listable c.requires.0 (omega arith) (omega arith) c.requires.1 in
    let from = rw (c.last_unit-unit.ensures.inputs_are ∙ heads_of_last (units_of c.args.plan)) at c.start_within-start.ensures in
    cuts_stored listable c.last_unit-unit.ensures c.args.plan.once.shown.word LAST_COUNT from.1 from.0 c.list_one.ensures
