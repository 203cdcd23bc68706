-- The laws of this crate that the proofs of its functions name, each with its home.
pub use Rattle.narrowing.proofs.BackedAtoms.{Backing, backers_of_lem, backing_next, rule_backs, zeros_at}
pub use Rattle.narrowing.proofs.LoopedAtoms.{Above, Holding, above_all, above_next, head_held, held_within, holding_end, holding_next, holding_start}
pub use Rattle.narrowing.proofs.LoopedAtoms.{none_held}
pub use Rattle.narrowing.proofs.MarkedTables.{Adding, IsAt, adding_end, adding_next, adding_start, marked_end, word_added}
pub use Rattle.narrowing.proofs.NumberedSteps.{cut_within, rule_narrows, support_narrows}
pub use Rattle.narrowing.proofs.StoppedRules.{held_live, held_stopped, met_spent}
pub use Rattle.narrowing.proofs.StoppedRules.{open_live, stands_no_stop}
pub use Rattle.narrowing.proofs.SupportSteps.{body_asked, held_narrows, none_left, not_alone, one_left, others_lent}
pub use Rattle.narrowing.proofs.SupportSteps.{supporters_from, supporters_next}
pub use Rattle.narrowing.proofs.UnfoundedAtoms.{spared, spares_failed, spares_head, spares_positive, spares_up, spares_without, unfounded_narrows}
pub use Rattle.narrowing.proofs.WideRules.{not_wide}
