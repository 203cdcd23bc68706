-- The laws of this crate that the proofs of its functions name, each with its home.
pub use Rattle.relay_rows.proofs.Exchanging.{crossed, half_lt, halved_round, halved_start, high_across, high_word, low_across, low_word, mask_0}
pub use Rattle.relay_rows.proofs.Exchanging.{mask_1, mask_2, mask_3, mask_4, mask_5}
pub use Rattle.relay_rows.proofs.Filling.{Filling, Reading, filling_end, filling_more, filling_room, filling_start, reading_end, reading_more}
pub use Rattle.relay_rows.proofs.Filling.{reading_start}
pub use Rattle.relay_rows.proofs.Rearranging.{answer_refused, answer_written, positions_written, rows_written}
pub use Rattle.relay_rows.proofs.Scattering.{ListParts, RowParts, Scattering, list_parts_end, list_parts_more, list_parts_start, row_parts_end}
pub use Rattle.relay_rows.proofs.Scattering.{row_parts_more, row_parts_start, scattered_same, scattering_end, scattering_more, scattering_room}
pub use Rattle.relay_rows.proofs.Scattering.{scattering_start}
pub use Rattle.relay_rows.proofs.SheetWords.{position_part, row_part}
