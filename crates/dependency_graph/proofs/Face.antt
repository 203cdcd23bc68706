-- The laws of this crate that the proofs of its functions name, each with its home.
pub use Rattle.dependency_graph.proofs.Built.{Built, built_end, twice_more, twice_start, union_more, union_start, word_same}
pub use Rattle.dependency_graph.proofs.Filled.{Filling, filled_itself, filling_end, filling_more, filling_start, unreached}
pub use Rattle.dependency_graph.proofs.GatheredNumbers.{few_below, few_in, holding_below, holding_in, union_over_below, union_over_in}
pub use Rattle.dependency_graph.proofs.Heads.{reach_filled, reach_next, through_hit, through_miss}
pub use Rattle.dependency_graph.proofs.Order.{done_not_ready, next_first, ready_of_waiting}
pub use Rattle.dependency_graph.proofs.PlanUnits.{heads_filled, inputs_filled}
