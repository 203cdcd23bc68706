-- What the proofs of this crate name of the kit, of the crates below and of its own definitions, each with its home.
pub use Rattle.answer_sets.specs.Lent.{inputs, lent}
pub use Rattle.atoms.proofs.Collected.{collects_has, collects_iff, collects_same, collects_union}
pub use Rattle.atoms.proofs.Counts.{count_proper, counts_small, taken_less}
pub use Rattle.atoms.proofs.Kit.{Bool, List, [], ◌*◌, ◌++◌, ◌+◌, ◌-◌, ◌<◌, ◌^◌, ◌∙◌, ◌≡◌, ◌≤◌, ◌⊎◌, ap, append_assoc, append-nil, ap₂, arith, drop, eqb}
pub use Rattle.atoms.proofs.Kit.{false, get_or, get_or-drop, get_or-take, inl, inr, length, length-drop, length-paste, length-take-le, needs, not}
pub use Rattle.atoms.proofs.Kit.{paste, refl, subst, sym, take, take_all, true, ℕ, ℕ_discrete}
unfoldable pub use Rattle.atoms.proofs.Kit.{ones}
pub use Rattle.atoms.proofs.Sets.{atom_only, cut_left, decides_apart, has_atom, has_none, some_atom, without_left, without_right}
pub use Rattle.atoms.proofs.TakenNumbers.{taken_lent, taken_lt}
pub use Rattle.atoms.proofs.Tests.{bool_ext, decided, decided_true, decides_equal, decides_not}
pub use Rattle.atoms.specs.Bounded.{Decides, all_in, single_if}
pub use Rattle.atoms.specs.Collected.{Collects}
pub use Rattle.atoms.specs.Word.{ATOMS, Apart, AtMostOne, Has, ◌∖◌, ◌∩◌, ◌∪◌, ◌⊆◌, apart, atom}
pub use Rattle.joining.proofs.Filters.{filtered_narrows}
pub use Rattle.joining.proofs.JoinedLists.{joinable_some, joins_some}
pub use Rattle.joining.specs.Filter.{Filtered, JoinsAll}
pub use Rattle.learning.proofs.Stores.{same_pairs, same_trans}
pub use Rattle.learning.specs.Store.{RING, SamePairs}
pub use Rattle.narrowing.proofs.MarkedTables.{Adding, adding_end, adding_next, adding_start, adds_iff, adds_none, adds_trans}
pub use Rattle.narrowing.specs.Marks.{AddsAt, ByOne, Marked, NotedAt}
pub use Rattle.parities.specs.Told.{Summed, TellsParity, ToldAtom}
pub use Rattle.plan.specs.Limits.{LIST_WORDS, MAX_TABLES, MAX_UNITS}
pub use Rattle.propagating.specs.Agenda.{FOUNDED_PLACE, INDEX_WORDS, Indexed, SUMS_PLACE, TABLES_PLACE, TablePlace, WakeIndex, WakesFounded, WakesList}
pub use Rattle.propagating.specs.Agenda.{WakesSums, WakesTable, WakesTables, WakesTold, Woken, atoms_of, by_list, by_loop, by_rule, by_sums, by_table}
pub use Rattle.propagating.specs.Agenda.{by_told, weight}
pub use Rattle.propagating.specs.Desk.{BACKERS_AT, DESK_WORDS, INDEX_AT, LINKED_AT, LaidOut, PILOTS_AT, Prepared, Wired, backers_of, linked_of, pilots_of}
pub use Rattle.propagating.specs.Job.{Belongs, Searchable}
pub use Rattle.propagating.specs.declared.unit.Job.{Job}
pub use Rattle.states.proofs.Narrows.{narrows_for, narrows_refl, narrows_trans}
pub use Rattle.states.specs.Narrowing.{Narrows}
pub use Rattle.states.specs.State.{undecided}
pub use Rattle.states.specs.declared.state.State.{State}
