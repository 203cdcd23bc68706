-- What the proofs of this crate name of the kit, of the crates below and of its own definitions, each with its home.
pub use Rattle.answer_sets.specs.AnswerSet.{AnswerSet}
pub use Rattle.answer_sets.specs.Lent.{lent}
pub use Rattle.atoms.proofs.Kit.{Bool, List, List-as-Memᴰ, Memᴰ-cases_cons, Memᴰ-head, Memᴰ-not-nil, Memᴰ-tail, [], ◌++◌, ◌+◌, ◌<◌, ◌↔◌, ◌∙◌}
pub use Rattle.atoms.proofs.Kit.{◌∷◌, ◌≡◌, ◌≤◌, ◌⊎◌, ap, arith, drop, false, inl, inr, length, lt-ltb, ltb, ltb-false, ltb-true, needs, refl, subst, suc, sym}
pub use Rattle.atoms.proofs.Kit.{take, true, true≢false, zero, ℕ}
pub use Rattle.atoms.proofs.Rising.{above_at, members_at, members_has, members_rising, rising_ext}
pub use Rattle.atoms.proofs.Sets.{has_below, has_left, has_right, subset_le}
pub use Rattle.atoms.proofs.Tests.{decided_true, decides, not_both}
pub use Rattle.atoms.specs.Cuts.{cut_list}
pub use Rattle.atoms.specs.Rising.{Rising, members, rising_cons}
pub use Rattle.atoms.specs.Word.{Has, ◌⊆◌, below}
pub use Rattle.demands.proofs.Demand1.{lays_accepted, lays_read, listable_lists}
pub use Rattle.demands.specs.Demands.{ListsComplete, last_in}
pub use Rattle.demands.specs.Promised.{Promised}
pub use Rattle.demands.specs.declared.listing.Listing.{Listing}
pub use Rattle.finding.proofs.Walks.{above_of, behind_more, walk_at, walk_has, walk_of}
pub use Rattle.finding.specs.Least.{Behind, LeastOf, Leasts, above, from_start, least, none}
pub use Rattle.judge.proofs.Settled.{Headed, decides_settled, settled_headed, whole_lent}
pub use Rattle.plan.specs.Record.{Fitting}
pub use Rattle.plan.specs.declared.fault.Fault.{Fault}
pub use Rattle.plan.specs.Faults.{Accepted, Refused}
pub use Rattle.plan.specs.declared.record.Plan.{Plan}
pub use Rattle.plan_meaning.proofs.AskedPlans.{accepted_answered, asked_accepted, asked_refused, not_accepted, outcome_is, read_fits, refused_answered}
pub use Rattle.plan_meaning.specs.Settled.{Settles, settled}
pub use Rattle.reading.proofs.Limits.{record_fits}
pub use Rattle.reading.specs.Reading.{ReadPlan, accepted, reading, refused}
pub use Rattle.stepping.specs.Followed.{Followed, Follows, behind, followed, may_be_up, none_left, position, settled_behind}
unfoldable pub use Rattle.stepping.specs.Followed.{next_in}
pub use Rattle.stepping.specs.PlanWalk.{Walked, ends, goes}
pub use Rattle.std.specs.declared.option.Option.{Option}
pub use Rattle.std.specs.declared.option.Option.TheVariants.{None, Some}
pub use Rattle.std.specs.declared.result.Result.{Result}
pub use Rattle.std.specs.declared.result.Result.TheVariants.{Err, Ok}
