-- The tables are copied and the rules linked; without room for the tables no rule is numbered.
use Rattle.pilots.proofs.Prelude.{◌^◌, ◌<◌, arith, ATOMS, needs}
use Rattle.pilots.proofs.Face.{lent_linked, linked_none, linked_copy, linked_all}
use Rattle.pilots.proofs.link.link.Goals as goal

pub returns-then-rules-lt-FIRST_RULE : goal.returns-then-rules-lt-FIRST_RULE
returns-then-rules-lt-FIRST_RULE c = search (linked_none, needs)

pub slice_bounds-store-end : goal.slice_bounds-store-end
slice_bounds-store-end c = omega (arith, (c.is_plain.ensures.yes c.if-is_plain.true).long)

pub returns-then-is_plain : goal.returns-then-is_plain
returns-then-is_plain c = linked_copy _ (c.is_plain.ensures.yes c.if-is_plain.true) (search needs) (search needs) c.store.ensures (search needs)

pub link_all-requires : goal.link_all-requires
link_all-requires c = search (lent_linked, needs)

pub returns : goal.returns
returns c =
    let fits : c.args.which < 2 ^ ATOMS = omega arith in
    linked_all _ c.if-rules-lt-FIRST_RULE.false (search needs) fits c.store-2.ensures c.told_uses.ensures
    c.link_all.ensures (search needs)
