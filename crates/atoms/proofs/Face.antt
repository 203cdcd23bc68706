-- The laws of this crate that the proofs of its functions name, each with its home.
pub use Rattle.atoms.proofs.Counts.{counts_small, leading_highest, taken_less, trailing_lowest}
pub use Rattle.atoms.proofs.Digits.{shifted_one}
pub use Rattle.atoms.proofs.Sets.{cut_left, has_lt, subset_refl, subset_trans}
pub use Rattle.atoms.proofs.Singles.{at_most_none, decides_at_most_one, single_if_false, single_if_true}
pub use Rattle.atoms.proofs.Tallies.{Counting, counting_end, counting_next, counting_none, counting_start, most_end, most_start, most_turn}
pub use Rattle.atoms.proofs.Tallies.{preferred_both, preferred_word}
