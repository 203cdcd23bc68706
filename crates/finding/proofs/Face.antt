-- The laws of this crate that the proofs of its functions name, each with its home.
pub use Rattle.finding.proofs.Constraints.{HeldSoFar, any_asked, held_end, held_start, held_step, lent_some, others_within, tried_drops, tried_keeps}
pub use Rattle.finding.proofs.NearPlaces.{between_rest, near_node, place_at_lem, reaches_more, reaches_near}
pub use Rattle.finding.proofs.Trees.{among_told, behind_from_above, behind_from_start, dark_free, decides_below, descended}
pub use Rattle.finding.proofs.Trees.{descended_falls, gather_both, gather_full, gather_leaf, gather_low, gather_none, gather_root, hinted_place}
pub use Rattle.finding.proofs.Trees.{kept_there, sought_new, looked_asked, looked_known, looked_passed, looked_seen, overlap_nothing, passed_all, place_kept}
pub use Rattle.finding.proofs.Wholes.{asked_none, asked_some, desk_serves, no_lists_full, stands_still}
