-- The laws of this crate that the proofs of its functions name, each with its home.
pub use Rattle.judge.proofs.JudgedSheets.{Passed, bad_over, bad_rest, bad_sheet, judged_sheet, passed_more, places_all, places_first, refused_sheet}
pub use Rattle.judge.proofs.JudgedSheets.{tested_at}
pub use Rattle.judge.proofs.Settled.{test_judged, whole_lent}
