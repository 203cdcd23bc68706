-- The laws of this crate that the proofs of its functions name, each with its home.
pub use Rattle.packed_decimal.proofs.Conversion.{number_bad, number_says, packed_fits, reading_large, reading_unmeasured, reading_word}
pub use Rattle.packed_decimal.proofs.DigitLoops.{Respelling, Testing, next_fits, respelling_all, respelling_more, respelling_start, sum_fits}
pub use Rattle.packed_decimal.proofs.DigitLoops.{testing_all, testing_bad, testing_more, testing_start}
pub use Rattle.packed_decimal.proofs.FirstBad.{pair_first, pair_good, pair_none, pair_second, tested_bad, tested_good}
pub use Rattle.packed_decimal.proofs.LargestReading.{Seeking, larger_first, larger_more, larger_same, larger_unmeasured, seeking_more, seeking_start}
pub use Rattle.packed_decimal.proofs.Orders.{compared_is, compared_refused, order_unmeasured_left, order_unmeasured_right, words_compare}
pub use Rattle.packed_decimal.proofs.Promises.{held, numbered, repacked, sought_all, sought_bad, sought_lone, summed}
pub use Rattle.packed_decimal.proofs.Readings.{measured_is, measured_says, measured_word, unmeasured_is, unmeasured_says}
pub use Rattle.packed_decimal.proofs.Sums.{added_is, added_refused, left_fits, right_fits, sum_unmeasured_left, sum_unmeasured_right, words_carry}
pub use Rattle.packed_decimal.proofs.Sums.{words_plain}
