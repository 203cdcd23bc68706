-- The laws of this crate that the proofs of its functions name, each with its home.
pub use Rattle.searching.proofs.ExploredNodes.{entered_job, entered_ready, explored_both, explored_branch, explored_done, explored_gathered}
pub use Rattle.searching.proofs.ExploredNodes.{explored_leaf, explored_narrowed, explored_skip, explored_stop, explored_witnessed, is_leaf, is_open}
pub use Rattle.searching.proofs.ExploredNodes.{is_stop, nothing_wanted, sought_both, sought_branch, sought_handed, sought_leaf, sought_met}
pub use Rattle.searching.proofs.ExploredNodes.{sought_skip, sought_stop}
pub use Rattle.searching.proofs.Gathered.{gathered_ordered, zeros_ordered}
pub use Rattle.searching.proofs.Models.{asked_found, asked_none, asks_found, asks_none, models_job, models_prepared}
pub use Rattle.searching.proofs.Models.{settled_none, settled_one}
pub use Rattle.searching.proofs.SearchSteps.{belongs_answers, offer_none, offer_one}
pub use Rattle.searching.proofs.TestedPilots.{Clear, DistinctBelow, distinct_next}
pub use Rattle.searching.proofs.TestedPilots.{next_table, no_pilots, none_down, rule_clear, tested_pilots}
pub use Rattle.searching.proofs.Witnesses.{enough_met, hidden_few}
