-- The laws of this crate that the proofs of its functions name, each with its home.
pub use Rattle.auditing.proofs.Audits.{WordsBefore, added_missing, bad_audited, found_audited, refused_audited, sheet_few, words_more}
