-- What the proofs of this crate name of the kit, of the crates below and of its own definitions, each with its home.
pub use Rattle.answer_sets.specs.AnswerSet.{AnswerSet}
pub use Rattle.answer_sets.specs.Lent.{USE_BITS, inputs, negative, truth, used_table, uses}
unfoldable pub use Rattle.answer_sets.specs.Lent.{lent, use_holds, uses_hold}
pub use Rattle.atoms.proofs.Bounded.{all_in_at, all_in_intro, decides_some}
pub use Rattle.atoms.proofs.Cuts.{cut_for, cut_of_list, cut_rising}
pub use Rattle.atoms.proofs.Kit.{Bool, List, List-as-Memᴰ, Memᴰ-cases_cons, Memᴰ-eq_of_singleton, Memᴰ-head, Memᴰ-not-nil, Memᴰ-tail}
pub use Rattle.atoms.proofs.Kit.{get_or-append, [], ◌&&◌, ◌*◌, ◌++◌, ◌+◌, ◌-◌, ◌<◌, ◌^◌, ◌↔◌, ◌∙◌, ◌∷◌, ◌≡◌, ◌≤◌, ◌⊎◌, ap, append_assoc, ap₂, arith, dec_lt}
pub use Rattle.atoms.proofs.Kit.{drop, drop-append-add, drop_at, eqb, eqb-false, false, get_or, get_or-append-add, get_or-replicate, inl, inr, le-ltb, length}
pub use Rattle.atoms.proofs.Kit.{length-append, length-drop, length-replicate, lt-ltb, ltb, ne_eqb, needs, paste, refl, replicate, replicate-append-replicate}
pub use Rattle.atoms.proofs.Kit.{set, subst, subst₂, suc, sym, take, take_all, take-append-add, take_at, true, true≢false, zero, ℕ, ℕ_discrete}
pub use Rattle.atoms.proofs.Lists.{get_or_tabulate, padded_at, padded_long, padded_nil, set_tabulate, tabulate_long, tabulate_same, tabulate_zero}
pub use Rattle.atoms.proofs.Rising.{members_at, members_has, members_rising, rising_ext}
pub use Rattle.atoms.proofs.Sets.{below_lt, cut_left, cut_right, decides_subset, empty, ext, has_cut, has_lt, has_none, lt_of_has, subset_le}
pub use Rattle.atoms.proofs.Tests.{bool_ext, decided_true, decides, decides_and, decides_iff, not_both}
unfoldable pub use Rattle.atoms.specs.Lists.{padded}
pub use Rattle.atoms.specs.Rising.{Rising, above_nil, rising_cons, rising_nil}
pub use Rattle.atoms.specs.Word.{Has, ◌∩◌, ◌⊆◌, apart, below}
pub use Rattle.demands.specs.Answer.{Answer, after_graph, refuse, unit_work}
unfoldable pub use Rattle.demands.specs.Answer.{answer, table_outcome, unless_refused, work_from}
pub use Rattle.demands.specs.Demand1.{Demand1, FirstFault, LeftBy, Listable, TableFixed, graph_place, reading_place, table_place, work_place, units_in}
pub use Rattle.demands.specs.Demands.{Complete, Demand2, Demand3, FirstLong, FitsList, GraphJudged, GraphNumber, ListOf, ListsComplete, Long, Shown}
pub use Rattle.demands.specs.Demands.{here, last, last_in, later}
pub use Rattle.demands.specs.Handed.{Handed}
unfoldable pub use Rattle.demands.specs.Handed.{refusal}
pub use Rattle.demands.specs.Held.{Holding}
pub use Rattle.demands.specs.LentTable.{list_counts, table_of}
unfoldable pub use Rattle.demands.specs.LentTable.{cleared, counts_with, list_at, no_counts_of, runs, table_with}
unfoldable pub use Rattle.demands.specs.UnitLists.{in_list, is_input, last_list_of, unit_list_of}
pub use Rattle.demands.specs.declared.listing.Listing.{Listing}
pub use Rattle.dependency_graph.proofs.Order.{order_each, order_one, order_only, order_right}
pub use Rattle.dependency_graph.proofs.Verdicts.{passes_of_verdict, verdict_of_passes, verdict_only, verdict_right}
pub use Rattle.dependency_graph.specs.Check.{VerdictRight, passes, row_10, row_11, row_12, row_13, row_14, row_16, verdict}
pub use Rattle.dependency_graph.specs.Graph.{Acyclic, ConditionA, ConditionB, ConditionC, Passes}
pub use Rattle.dependency_graph.specs.Heads.{heads, input_heads, reach}
pub use Rattle.dependency_graph.specs.Order.{InOrder, all_done, next, working_order}
unfoldable pub use Rattle.dependency_graph.specs.PlanUnits.{units_of}
pub use Rattle.dependency_graph.specs.Units.{Edge, GivenFree, Holds, Units}
pub use Rattle.plan.proofs.Refusals.{refused_by, refused_for, told}
pub use Rattle.plan.specs.Faults.{FaultRow, FirstFit, RefusedBy, number, spot}
pub use Rattle.plan.specs.Limits.{COUNTS, LAST_COUNT, LIST_WORDS, MAX_RULES, MAX_UNITS, TABLE_WORDS}
pub use Rattle.plan.specs.declared.fault.Fault.{Fault}
pub use Rattle.plan.specs.declared.fault.Fault.TheVariants.{LongList, TableShort}
pub use Rattle.plan.specs.Faults.{Accepted, Outcome, Refused}
pub use Rattle.plan.specs.declared.record.Plan.{Plan}
pub use Rattle.plan_meaning.specs.Settled.{Settles}
pub use Rattle.reading.proofs.Accepted.{accepted_is_plan, predecessors_there}
pub use Rattle.reading.proofs.Limits.{record_fits}
pub use Rattle.reading.specs.Layout.{All, Contents, GoodEdge, IsByte, Lays, UnitPair, WithinLimits, commands, record_of}
pub use Rattle.reading.specs.Reading.{accepted, reading}
pub use Rattle.splitting.proofs.Last.{last_free, last_list, last_passes}
pub use Rattle.splitting.specs.UnitList.{Agree, AgreeLast, Clean, Listed, SameRule}
unfoldable pub use Rattle.splitting.specs.UnitList.{with_last}
