-- The row of a use that fails is right where the rule is satisfied.
use Rattle.parities.proofs.Prelude.{needs}
use Rattle.parities.proofs.Face.{gathered_refl, row_put, open_bit_small, some_use, use_small, same_use, use_bit_small, told_row}
use Rattle.parities.proofs.sums.gather_told.Goals as goal

pub returns-then-not-is_held : goal.returns-then-not-is_held
returns-then-not-is_held c = gathered_refl

pub lowest-i-requires : goal.lowest-i-requires
lowest-i-requires c = search (some_use, needs)

pub use_row-requires : goal.use_row-requires
use_row-requires c = search (use_small, needs)

pub open_row-row-requires : goal.open_row-row-requires
open_row-row-requires c = search (use_bit_small, needs)

pub used_table-t-requires : goal.used_table-t-requires
used_table-t-requires c = search (use_small, needs)

pub put_bit-requires : goal.put_bit-requires
put_bit-requires c = search (open_bit_small, needs)

pub returns : goal.returns
returns c =
    row_put c.requires.2 (search needs)
    (told_row (c.is_held.ensures c.if-not-is_held.false) c.requires.1
    (same_use _ _ c.uses.ensures c.first.ensures c.cut.ensures c.lowest-i.ensures.0.here c.requires.1)
    (c.shared_slice_known-1.given _).fits
    c.use_row.ensures
    c.open_row-row.ensures)
    (search needs)
