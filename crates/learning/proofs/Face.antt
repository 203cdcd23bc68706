-- The laws of this crate that the proofs of its functions name, each with its home.
pub use Rattle.learning.proofs.Nogoods.{refuted_down, refuted_up, resolves_either, resolves_equal, within_dropped, within_up}
pub use Rattle.learning.proofs.Reasons.{contradicts, names_many, once_before, once_not, once_now, overlap_tells, within_tells, worth_learning}
pub use Rattle.learning.proofs.Stores.{Passing, empty_of, empty_same, is_news, keeps_refl, keeps_same, keeps_written, learnt_at, learnt_is}
pub use Rattle.learning.proofs.Stores.{learnt_keeps, news_met, news_none, news_stopped, next_high, next_low, not_news, passing_next, passing_start}
pub use Rattle.learning.proofs.Stores.{same_behind, same_pairs, same_part, same_trans, written}
pub use Rattle.learning.proofs.Trails.{scored_part}
