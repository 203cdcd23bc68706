-- The laws of this crate that the proofs of its functions name, each with its home.
pub use Rattle.pilots.proofs.FollowedTables.{Followed, followed_end, followed_next, followed_start, follows_false, follows_nothing, follows_true}
pub use Rattle.pilots.proofs.FollowedTables.{none_follow, not_followed, row_false, row_true}
pub use Rattle.pilots.proofs.Linking.{Linking, NoneBelow, lent_linked, linked_all, linked_copy, linked_none, linking_end, linking_next, linking_start}
pub use Rattle.pilots.proofs.Linking.{none_end, none_next, none_start, room, rule_linked, told_more, told_none}
pub use Rattle.pilots.proofs.PilotRows.{all_false, all_true, inputs_told, none_left, pilot_dropped, pilot_up, tested_apart, tested_shared}
pub use Rattle.pilots.proofs.PilotRows.{tested_within}
