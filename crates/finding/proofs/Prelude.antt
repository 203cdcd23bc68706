-- What the proofs of this crate name of the kit, of the crates below and of its own definitions, each with its home.
pub use Rattle.answer_sets.specs.AnswerSet.{AnswerSet}
pub use Rattle.answer_sets.specs.Lent.{Lent, lent}
pub use Rattle.atoms.proofs.HighParts.{high_at, high_mono, high_same, high_with, high_without}
pub use Rattle.atoms.proofs.Kit.{Bool, List, List-as-Memᴰ, Memᴰ-cases_cons, Memᴰ-head, Memᴰ-not-nil, Memᴰ-tail, [], ◌*◌, ◌++◌}
pub use Rattle.atoms.proofs.Kit.{◌+◌, ◌-◌, ◌<◌, ◌^◌, ◌∙◌, ◌∷◌, ◌≡◌, ◌≤◌, ◌⊎◌, ap, arith, dec_lt, drop, ext_get_or, false, false≢true, get_or}
pub use Rattle.atoms.proofs.Kit.{get_or-drop, get_or-set_other, get_or-set_same, get_or-take, inl, inr, length, length-drop, length-replicate, length-set}
pub use Rattle.atoms.proofs.Kit.{length-take, lt-ltb, ltb, ltb-true, min, needs, not, not-false, not-true, ones, pow_pos, refl, replicate, set, subst}
pub use Rattle.atoms.proofs.Kit.{suc, sym, take, take-append-drop, true, true≢false, zero, ℕ, ℕ_discrete}
pub use Rattle.atoms.proofs.Lists.{index_of, member_get_or}
pub use Rattle.atoms.proofs.Rising.{above_at, rising_by}
pub use Rattle.atoms.proofs.Sets.{atom_only, below_lt, cut_left, cut_right, decides_apart, decides_subset, ext, has_atom, has_below, has_cut, has_dec}
pub use Rattle.atoms.proofs.Sets.{has_left, has_lt, has_none, has_outside, has_right, has_without, outside_lacks, outside_lt, subset_antisym, subset_le}
pub use Rattle.atoms.proofs.Sets.{subset_refl, subset_trans, union_cases, without_left, without_right}
pub use Rattle.atoms.proofs.Tests.{and-true, decided_true, decides, not_both}
pub use Rattle.atoms.specs.Bounded.{Decides}
pub use Rattle.atoms.specs.Word.{ATOMS, Apart, Has, Highest, Lowest, ◌∖◌, ◌∩◌, ◌∪◌, ◌⊆◌, apart, atom, high, outside, subset}
unfoldable pub use Rattle.atoms.specs.Word.{below}
pub use Rattle.finding.specs.Gather.{Added, AllPassed, Descended, Due, Hinted, KeptWitness, Likely, Looked, Node, OfferedNext, PlaceIn, Sought}
pub use Rattle.finding.specs.Gather.{StandsAmong, at_place, dark_of, elsewhere, kept, known, left, seen, unknown, unseen}
pub use Rattle.finding.specs.Least.{Behind, LeastOf, Leasts, above, from_start, least, none}
pub use Rattle.finding.specs.Near.{BetweenPlaces, Further, PlaceAt, Reaches, high_free, last_like, like_of}
pub use Rattle.finding.specs.Whole.{Rooted, Serves, Settled, Standing, Unpiloted, hidden_of, no_lists, unit_of, whole_of}
pub use Rattle.finding.specs.declared.gather.WalkNode.{WalkNode}
pub use Rattle.joining.proofs.Filters.{full_filtered}
pub use Rattle.joining.proofs.JoinedLists.{joinable_some, joins_none}
pub use Rattle.learning.specs.Reason.{Remembers}
pub use Rattle.propagating.specs.Desk.{LaidOut, Prepared, Wired, pilots_of}
pub use Rattle.propagating.specs.declared.unit.Job.{Job}
pub use Rattle.searching.specs.Witness.{Witnessed, met}
pub use Rattle.states.proofs.Narrows.{completes_back}
pub use Rattle.states.specs.Narrowing.{Narrows, Wanted, both_of, branch_of}
pub use Rattle.states.specs.State.{Completes, undecided}
pub use Rattle.states.specs.declared.state.State.{State}
pub use Rattle.std.specs.declared.option.Option.{Option}
pub use Rattle.std.specs.declared.option.Option.TheVariants.{None, Some}
