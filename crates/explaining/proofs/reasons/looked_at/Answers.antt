-- The claim's step is one that there is, and the rules that may back an atom are some of the unit's.
use Rattle.explaining.proofs.Prelude.{arith, ◌<◌, MAX_UNITS, pilots_long, needs}
use Rattle.answer_sets.proofs.Lent.{lent_within}
use Rattle.propagating.proofs.Propagation.{linked_lent}
use Rattle.explaining.proofs.reasons.looked_at.Goals as goal

pub numbered_atoms-requires : goal.numbered_atoms-requires
numbered_atoms-requires c = search (linked_lent c.args.cx.now, c.args.c.there.rule, needs)

pub backing-requires : goal.backing-requires
backing-requires c = search (c.args.c.there.atom, needs)

pub excluding-requires : goal.excluding-requires
excluding-requires c = search (linked_lent c.args.cx.now, lent_within, needs)

pub offset_bounds-cx-list : goal.offset_bounds-cx-list
offset_bounds-cx-list c =
    let on_desk : c.in-List.list < MAX_UNITS = search (c.args.c.there.list, needs) in
    omega (arith, on_desk)

pub bounds-cx-list : goal.bounds-cx-list
bounds-cx-list c =
    let on_desk : c.in-List.list < MAX_UNITS = search (c.args.c.there.list, needs) in
    omega (arith, on_desk)

pub table_atoms-requires : goal.table_atoms-requires
table_atoms-requires c = search (c.args.c.there.table, needs)

pub parity_atoms-requires : goal.parity_atoms-requires
parity_atoms-requires c = search (pilots_long, needs)

pub read_pair-requires : goal.read_pair-requires
read_pair-requires c = search (c.args.c.there.pair, needs)
