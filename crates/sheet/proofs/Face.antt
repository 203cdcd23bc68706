-- The laws of this crate that the proofs of its functions name, each with its home.
pub use Rattle.sheet.proofs.DecimalDigits.{decimal_made, decimal_places, hexadecimal_made, length_hexadecimal}
pub use Rattle.sheet.proofs.Sheets.{length_position_line, length_positions_sheet, length_refusal_sheet, put_next_line, put_no_line, put_position_line}
pub use Rattle.sheet.proofs.Sheets.{put_positions_sheet, put_refusal_sheet}
pub use Rattle.sheet.proofs.WrittenBytes.{put_fills, put_over, too_short_keeps}
