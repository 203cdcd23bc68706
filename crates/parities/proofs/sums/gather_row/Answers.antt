-- The row of a parity table is right where its pilot follows it.
use Rattle.parities.proofs.Prelude.{needs}
use Rattle.parities.proofs.Face.{gathered_refl, row_put, gathered_row, row_bit_small, open_bit_small}
use Rattle.parities.proofs.sums.gather_row.Goals as goal

pub returns-then-not-is_parity_table : goal.returns-then-not-is_parity_table
returns-then-not-is_parity_table c = gathered_refl

pub table_row-requires : goal.table_row-requires
table_row-requires c = ((c.is_parity_table.ensures.yes c.if-not-is_parity_table.false).there, c.requires.0, c.requires.1)

pub open_row-row-requires : goal.open_row-row-requires
open_row-row-requires c = search (row_bit_small, needs)

pub put_bit-requires : goal.put_bit-requires
put_bit-requires c = search (open_bit_small, needs)

pub returns : goal.returns
returns c =
    row_put c.requires.2 c.requires.1
    (gathered_row (c.is_parity_table.ensures.yes c.if-not-is_parity_table.false) (c.shared_slice_known-1.given _).fits
    (c.shared_slice_known-2-1.given _).fits
    c.table_row.ensures
    c.open_row-row.ensures)
    (search needs)
