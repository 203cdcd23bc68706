-- What the proofs of this crate name of the kit, of the crates below and of its own definitions, each with its home.
pub use Rattle.answer_sets.specs.Lent.{lent, rule_at}
pub use Rattle.atoms.proofs.Bounded.{all_in_at, all_in_intro, some_at, some_intro, union_at, union_has}
pub use Rattle.atoms.proofs.Kit.{Bool, List, List-as-Memᴰ, Memᴰ-cases_cons, Memᴰ-head, Memᴰ-not-nil, Memᴰ-tail, [], ◌*◌, ◌++◌, ◌+◌, ◌-◌, ◌<◌}
pub use Rattle.atoms.proofs.Kit.{◌^◌, ◌∙◌, ◌∷◌, ◌≡◌, ◌≤◌, ◌⊎◌, ap, arith, dec_lt, drop, eq-eqb, eqb, eqb-true, false, false≢true, get_or, inl, inr}
pub use Rattle.atoms.proofs.Kit.{le-ltb, length, length-replicate, length-take, lt-ltb, needs, paste, refl, replicate}
pub use Rattle.atoms.proofs.Kit.{set, subst, suc, sym, take, take-append-drop, true, true≢false, zero, ℕ}
pub use Rattle.atoms.proofs.Rising.{above_at, members_same, rising_ext}
pub use Rattle.atoms.proofs.Sets.{atom_only, below_lt, cut_left, cut_right, decides_has, empty, ext, has_atom, has_below, has_dec, has_left, has_lt, has_none}
pub use Rattle.atoms.proofs.Sets.{has_outside, has_right, lt_of_has, outside_lacks, subset_le, union_cases}
pub use Rattle.atoms.proofs.Tests.{decided_false, decided_true, decides_same}
pub use Rattle.atoms.specs.Rising.{Rising, members, rising_cons, rising_nil}
pub use Rattle.atoms.specs.Word.{ATOMS, EVERY_ATOM, Has, ◌∩◌, ◌∪◌, ◌⊆◌, atom, below}
pub use Rattle.demands.proofs.Answers.{handed_refused, last_fits, last_long, read_answer, refused_answer, short_answer, unless_accepted, unless_refused_lem}
pub use Rattle.demands.proofs.Answers.{work_cleared, work_fits, work_long}
pub use Rattle.demands.proofs.Decided.{decides_listed, numbers_fit, unit_list_at, unit_list_has}
pub use Rattle.demands.proofs.HeldLists.{held_cleared, held_count, held_counts_long, held_long, held_word, holding_next, holding_none}
pub use Rattle.demands.proofs.HeldLists.{list_absent, list_last, list_there}
pub use Rattle.demands.specs.Answer.{unit_work, work_from}
pub use Rattle.demands.specs.LentTable.{cleared, list_at}
unfoldable pub use Rattle.demands.specs.LentTable.{no_counts_of}
pub use Rattle.demands.specs.UnitLists.{in_list}
unfoldable pub use Rattle.demands.specs.UnitLists.{last_list_of, unit_list_of}
pub use Rattle.dependency_graph.specs.Graph.{Acyclic, Passes}
pub use Rattle.dependency_graph.specs.Heads.{heads, input_heads, own, reach}
pub use Rattle.dependency_graph.specs.Order.{InOrder, Ready, all_done, next, next_unit}
unfoldable pub use Rattle.dependency_graph.specs.Order.{order_from, working_order}
unfoldable pub use Rattle.dependency_graph.specs.PlanUnits.{units_of}
pub use Rattle.dependency_graph.specs.Units.{Edge, GivenFree, Units}
pub use Rattle.plan.specs.Limits.{LAST_COUNT, LIST_WORDS, MAX_RULES, MAX_UNITS, TABLE_WORDS}
pub use Rattle.plan.specs.declared.fault.Fault.TheVariants.{LongList, TableShort}
pub use Rattle.splitting.specs.UnitList.{Clean, Listed}
unfoldable pub use Rattle.splitting.specs.UnitList.{with_last}
pub use Rattle.states.specs.declared.state.State.{State}
pub use Rattle.unit_lists.specs.Work.{FoundFromNone, ListStored, ListsThere, MembersStored, Setting, Stored, UnitTold, UnitsWorked, Working, after_units}
pub use Rattle.unit_lists.specs.Work.{start_within}
unfoldable pub use Rattle.unit_lists.specs.Work.{list_so_far}
