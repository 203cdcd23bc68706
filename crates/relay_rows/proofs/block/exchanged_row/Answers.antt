-- A row whose number has bit e is a high one, any other a low one.
use Rattle.relay_rows.proofs.Prelude.{needs, arith}
use Rattle.relay_rows.proofs.Face.{half_lt, low_across, high_across, low_word, high_word}
use Rattle.relay_rows.proofs.block.exchanged_row.Goals as goal

pub offset_bounds-block-across : goal.offset_bounds-block-across
offset_bounds-block-across c = omega (arith, low_across c.requires c.single-half.ensures c.union-across.ensures)

pub bounds-block-across : goal.bounds-block-across
bounds-block-across c = omega (arith, c.requires.whole, low_across c.requires c.single-half.ensures c.union-across.ensures)

pub low_row-requires : goal.low_row-requires
low_row-requires c = search (half_lt, needs)

pub returns-then-are_apart : goal.returns-then-are_apart
returns-then-are_apart c = search (low_word, needs)

pub offset_bounds-block-across-2 : goal.offset_bounds-block-across-2
offset_bounds-block-across-2 c = omega (arith, high_across c.requires c.single-half.ensures c.without-across.ensures)

pub bounds-block-across-2 : goal.bounds-block-across-2
bounds-block-across-2 c =
    omega (arith, c.requires.whole, high_across c.requires c.single-half.ensures c.without-across.ensures)

pub high_row-requires : goal.high_row-requires
high_row-requires c = search (half_lt, needs)

pub returns : goal.returns
returns c =
    high_word c.requires c.single-half.ensures c.are_apart.ensures c.if-are_apart.false c.without-across.ensures (c.type_inv.block c.args.k).fits
    c.high_row.ensures
