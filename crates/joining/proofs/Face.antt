-- The laws of this crate that the proofs of its functions name, each with its home.
pub use Rattle.joining.proofs.Filters.{Filling, Listing, Sifting, entry_leaves, entry_stays, filling_end, filling_next, list_clash, list_narrows}
pub use Rattle.joining.proofs.Filters.{list_refined, listing_end, listing_next, listing_start, sifting_end, sifting_next, sifting_start}
pub use Rattle.joining.proofs.Filters.{step_filtered, step_narrows}
pub use Rattle.joining.proofs.JoinedLists.{count_there, heads_there, joins_all, joins_not, list_there, among_any, among_here}
pub use Rattle.joining.proofs.JoinedLists.{listed_part, listed_said, same_number, unit_taken}
