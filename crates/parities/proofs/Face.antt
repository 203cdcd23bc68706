-- The laws of this crate that the proofs of its functions name, each with its home.
pub use Rattle.parities.proofs.ParityTables.{Found, Gathering, found_all, found_next, found_none, gathering_end, gathering_lent, gathering_next}
pub use Rattle.parities.proofs.ParityTables.{gathering_start, is_odd, may_be_even, not_lent, not_piloted, piloted_parity, rows_fit, too_many}
pub use Rattle.parities.proofs.SummedRows.{bit_none_put, bit_one, bit_one_put, bit_zero, gathered_for, gathered_refl, gathered_row, gathered_trans}
pub use Rattle.parities.proofs.SummedRows.{open_bit_small, open_is, row_added, row_bit_small, row_drops, row_is, row_put, row_some, rows_more}
pub use Rattle.parities.proofs.SummedRows.{rows_narrow, same_rows_refl, same_rows_trans, sum_is}
pub use Rattle.parities.proofs.ToldRows.{Chosen, GatheringTold, chosen_end, chosen_next, chosen_start, held_when, no_use, one_use, same_use}
pub use Rattle.parities.proofs.ToldRows.{several_uses, some_head, some_use, told_end, told_next, told_numbered, told_row, told_start, use_bit_small}
pub use Rattle.parities.proofs.ToldRows.{use_row_is, use_small}
