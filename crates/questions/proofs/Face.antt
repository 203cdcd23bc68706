-- The laws of this crate that the proofs of its functions name, each with its home.
pub use Rattle.questions.proofs.Held.{Holding, Tally, holding_end, holding_fits, holding_long, holding_more, holding_start, tally_end, tally_holdable}
pub use Rattle.questions.proofs.Held.{tally_long, tally_more, tally_start, within_now}
pub use Rattle.questions.proofs.QuestionWords.{Putting, Taken, dropped_long, filled_words, putting_end, putting_long, putting_more, putting_start}
pub use Rattle.questions.proofs.QuestionWords.{refused_words, taken_end, taken_more, taken_start, up_long, whole_third, words_within}
pub use Rattle.questions.proofs.Questions.{FilledIn, TakenOut, filled, filled_end, filled_more, refused, taken_out_end, taken_out_more, taken_out_start}
