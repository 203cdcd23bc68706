-- The laws of this crate that the proofs of its functions name, each with its home.
pub use Rattle.exports.proofs.BatchCodes.{batch_handed}
pub use Rattle.exports.proofs.HostCodes.{judge_handed, listed_code, refused_code_lem}
pub use Rattle.exports.proofs.NextCodes.{first_word, next_handed}
pub use Rattle.exports.proofs.ReadingCodes.{asked_measured, asked_unmeasured, largest_handed, said_or_none}
pub use Rattle.exports.proofs.ReadingCodes.{reading_handed, sum_handed}
