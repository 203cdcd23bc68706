-- What the proofs of this crate name of the kit, of the crates below and of its own definitions, each with its home.
pub use Rattle.answer_sets.proofs.Between.{finds_none}
pub use Rattle.answer_sets.proofs.JudgedSets.{decides_all_satisfied, decides_answer_set}
pub use Rattle.answer_sets.specs.AnswerSet.{AnswerSet, Kept, ReductModel}
pub use Rattle.answer_sets.specs.Lent.{Lent, inputs, lent, looks, truth}
pub use Rattle.answer_sets.specs.Program.{Body, Satisfies, SatisfiesAll}
pub use Rattle.answer_sets.specs.SubsetTest.{Between, Confines, Finds, InRule, in_head, in_looks, in_positive}
pub use Rattle.answer_sets.specs.Test.{satisfies_all}
pub use Rattle.atoms.proofs.Bounded.{union_at, union_has, word_at, word_has}
pub use Rattle.atoms.proofs.Counts.{taken_within}
pub use Rattle.atoms.proofs.Cuts.{cut_all, cut_for}
pub use Rattle.atoms.proofs.Insertion.{insert_above, insert_at, insert_below, insert_has, insert_longer, insert_rising, insert_same}
pub use Rattle.atoms.proofs.Kit.{Bool, List, List-as-Memᴰ, Memᴰ-append_cases, Memᴰ-cases_cons, Memᴰ-eq_of_singleton, Memᴰ-head}
pub use Rattle.atoms.proofs.Kit.{Memᴰ-not-nil, Memᴰ-tail, Memᴰ-append_left, Memᴰ-append_right, [], ◌*◌, ◌++◌, ◌+◌, ◌-◌, ◌<◌, ◌^◌}
pub use Rattle.atoms.proofs.Kit.{◌∙◌, ◌∷◌, ◌≡◌, ◌≤◌, ◌⊎◌, add-one, add-zero, ap, append_assoc, ap₂, arith, drop, drop-append-le, drop_at}
pub use Rattle.atoms.proofs.Kit.{drop-cons, drop-drop, drop_of_length-le, drop-set-lt, eqb-true, false, false≢true, get_or, get_or-drop}
pub use Rattle.atoms.proofs.Kit.{get_or-replicate, get_or-take, inl, inr, length, length-append, length-drop, length-replicate, length-set, length-take}
pub use Rattle.atoms.proofs.Kit.{length-take-le, lt_of_le_of_lt, min, not, not-false, not-true, ones, refl, replicate, set, set_split, subst}
pub use Rattle.atoms.proofs.Kit.{suc, sym, take, take_all, take-append-drop, take_at, take-suc, take-suc-set, true, true≢false, zero, ℕ, ℕ_discrete}
pub use Rattle.atoms.proofs.Sets.{cut_fits, cut_left, cut_right, decides_apart, decides_subset, empty, ext, has_atom, has_below, has_cut, has_dec, has_left}
pub use Rattle.atoms.proofs.Sets.{has_lt}
pub use Rattle.atoms.proofs.Sets.{has_none, has_right, has_without, subset_antisym, subset_le, subset_refl, union_cases, union_fits}
pub use Rattle.atoms.proofs.Sets.{without_fits, without_left, without_right}
pub use Rattle.atoms.proofs.TakenNumbers.{Taking, taken_lent, taken_lt, taking_end, taking_more, taking_next}
pub use Rattle.atoms.proofs.Tests.{decided_true, decides_iff}
pub use Rattle.atoms.specs.Bounded.{Decides, union_in, word_below}
pub use Rattle.atoms.specs.Cuts.{CutOf}
pub use Rattle.atoms.specs.Rising.{Rising, above_cons, rising_cons, rising_nil}
unfoldable pub use Rattle.atoms.specs.Rising.{insert_into}
pub use Rattle.atoms.specs.Word.{ATOMS, Apart, Has, ◌∖◌, ◌∩◌, ◌∪◌, ◌⊂◌, ◌⊆◌, apart, atom, below, subset}
pub use Rattle.joining.proofs.Filters.{filtered_branch, filtered_overlap, full_filtered}
pub use Rattle.joining.proofs.JoinedLists.{joinable_some, joins_each, joins_none, joins_one}
pub use Rattle.joining.specs.Filter.{Filtered}
pub use Rattle.joining.specs.Joins.{is_listed, joins}
pub use Rattle.learning.proofs.Nogoods.{nogood_resolved, nogood_stops, overlap_nogood}
pub use Rattle.learning.proofs.Reasons.{lifted_nogood, lifted_remembers, reason_nogood, remembers_empty, remembers_same}
pub use Rattle.learning.specs.Nogood.{Nogood, Resolves}
pub use Rattle.learning.specs.Reason.{Remembers}
pub use Rattle.narrowing.proofs.StoppedRules.{stop_answers_none}
pub use Rattle.narrowing.specs.Inputs.{AnswersInputs}
pub use Rattle.narrowing.specs.Stops.{NoStop}
pub use Rattle.pilots.specs.Linked.{PilotsWithin}
pub use Rattle.pilots.specs.Pilots.{FollowAll}
pub use Rattle.plan.specs.Limits.{LIST_WORDS, MAX_TABLES, MAX_UNITS, OVERFULL}
pub use Rattle.propagating.proofs.Desks.{belongs_desk, desk_belongs, prepared}
pub use Rattle.propagating.specs.Context.{FilteredIn, WiredIn}
pub use Rattle.propagating.specs.Desk.{LaidOut, Prepared, Wired}
pub use Rattle.propagating.specs.declared.context.Context.{Context}
pub use Rattle.propagating.specs.Job.{Belongs, Searchable}
pub use Rattle.propagating.specs.declared.unit.Job.{Job}
pub use Rattle.searching.specs.Calculus.{Searched, both, done, full, leaf, narrowed, skip, stop}
pub use Rattle.searching.specs.Entered.{Entered, ended, further}
pub use Rattle.searching.specs.Listing.{Gathered, Grown, Inserted, LeftOver, Offered, Ordered, Overfull, fits, no_room, over, room}
pub use Rattle.searching.specs.Models.{Asks, ModelJob, models_of}
pub use Rattle.searching.specs.Node.{Done, Explored, HandedUp, SoughtOf, enough, too_many}
pub use Rattle.searching.specs.Spare.{AlikeBut, AllDown, DistinctPilots, NoInputs, Piloted, Spare, all_pilots, with_inputs}
pub use Rattle.searching.specs.Witness.{Met, Shows, Witnessed, met, nobody, none, one}
pub use Rattle.searching.specs.declared.node.Found.{Found}
pub use Rattle.std.specs.Option.{option_or}
pub use Rattle.std.specs.declared.option.Option.{Option}
pub use Rattle.std.specs.declared.option.Option.TheVariants.{None, Some}
pub use Rattle.states.proofs.Branches.{decided_falls, none_falls, some_branch, without_branch}
pub use Rattle.states.proofs.HalfDecided.{decided_cases}
pub use Rattle.states.proofs.Narrows.{completes_back, narrows_trans, overlap_none, wanted_after, wanted_back, with_dropped_lem, with_up_lem}
pub use Rattle.states.proofs.Narrows.{without_dropped}
pub use Rattle.states.specs.Narrowing.{Narrows, Overlaps, Wanted, Within, branch_of}
pub use Rattle.states.specs.State.{Completes, undecided}
pub use Rattle.states.specs.declared.state.State.{State}
