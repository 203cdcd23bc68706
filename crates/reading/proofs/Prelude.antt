-- What the proofs of this crate name of the kit, of the crates below and of its own definitions, each with its home.
pub use Rattle.atoms.proofs.Kit.{Bool, List, List-as-Memᴰ, Memᴰ-append_cases, Memᴰ-cases_cons, Memᴰ-eq_of_singleton, Memᴰ-head}
pub use Rattle.atoms.proofs.Kit.{Memᴰ-not-nil, Memᴰ-tail, Memᴰ-append_left, Memᴰ-append_right, OneOf, Option, T, [], ◌%◌, ◌&&◌, ◌*◌, ◌++◌, ◌+◌, ◌-◌}
pub use Rattle.atoms.proofs.Kit.{◌/◌, ◌<◌, ◌^◌, ◌||◌, ◌∙◌, ◌∷◌, ◌≡◌, ◌≤◌, ◌⊎◌, add-one, ap, append_assoc, append-nil, ap₂, arith, dec_lt, drop, drop_at}
pub use Rattle.atoms.proofs.Kit.{drop-cons, drop-drop, drop_of_length-le, eq-eqb, eqb, eqb-false, eqb-true, false, get_or, get_or-append-add, get_or-take}
pub use Rattle.atoms.proofs.Kit.{has_key}
pub use Rattle.atoms.proofs.Kit.{inl, inr, le-leb, le-ltb, leb, leb-false, leb-true, leb-suc-zero, length, length-append, length-drop, length-take}
pub use Rattle.atoms.proofs.Kit.{length-take-le, lt-leb, lt-ltb, ltb, ltb-false, ltb-true, max, min, miss, mul-suc, ne_eqb, needs, none, not, not-false}
pub use Rattle.atoms.proofs.Kit.{ones, ones-le, or_assoc, or-false, pow-le-pow_right, pow_mono, pow-succ', pow-zero, refl, replicate, set, set-append_left}
pub use Rattle.atoms.proofs.Kit.{some, subst, suc, suc_ones, sym, tag_of, take, take_all, take-append-drop, take_at, take-nil, take-take, true, true≢false}
pub use Rattle.atoms.proofs.Kit.{zero, ℕ, ℕ_discrete}
unfoldable pub use Rattle.atoms.proofs.Kit.{flat_map}
pub use Rattle.atoms.proofs.Lists.{get_or_tabulate, padded_at, padded_long, padded_snoc, set_tabulate}
pub use Rattle.atoms.proofs.Sets.{atom_only, below_lt, cut_left, cut_right, decides_apart, decides_has, decides_subset, ext, has_atom, has_below, has_cut}
pub use Rattle.atoms.proofs.Sets.{has_left, has_lt, has_none, has_right, has_without, lt_of_has, some_atom, union_cases, without_left, without_right}
pub use Rattle.atoms.proofs.Tests.{and-true, bool_ext, decided, decided_false, decided_true, decides_and, decides_equal, decides_iff, decides_not, decides_or}
pub use Rattle.atoms.proofs.Tests.{decides_same, not_both}
pub use Rattle.atoms.specs.Bounded.{Decides}
unfoldable pub use Rattle.atoms.specs.Lists.{padded, tabulate}
pub use Rattle.atoms.specs.Word.{ATOMS, Apart, Has, ◌∖◌, ◌∩◌, ◌∪◌, apart, atom, has, subset}
unfoldable pub use Rattle.atoms.specs.Word.{below}
pub use Rattle.plan.specs.Faults.{FaultRow, FirstFit, RefusedBy, number, spot}
pub use Rattle.plan.specs.Limits.{CONTACT_WORDS, FIRST_RULE, MAX_EDGES, MAX_INPUTS, MAX_RULES, MAX_TABLES, MAX_UNITS, MAX_USES, RULE_WORDS, USES}
pub use Rattle.plan.specs.Record.{Fitting, uses_at, wanted_bit}
unfoldable pub use Rattle.plan.specs.Record.{empty_plan, with_count, with_edge, with_given, with_rule, with_show, with_table, with_unit, with_use}
pub use Rattle.plan.specs.declared.fault.Fault.TheVariants.{AbsentRule, BadEdge, BadTable, BadUse, ContradictoryBody, EmptyRule, OutOfOrder, TooMany}
pub use Rattle.plan.specs.declared.fault.Fault.TheVariants.{Truncated, UnknownCommand}
pub use Rattle.plan.specs.Faults.{Accepted, Outcome, Refused}
pub use Rattle.plan.specs.declared.record.Plan.{Plan}
pub use Rattle.reading.specs.Commands.{Kind, Most, Row, Single, byte_of, count, earliest_behind, edge, end, first_fit, full, given, kind_discrete}
pub use Rattle.reading.specs.Commands.{kind_among, kind_rows, kinds, most_of, no_room_of, once, operand_bytes, operand_rows, order_of, rows, rule, runs_out_at}
pub use Rattle.reading.specs.Commands.{show, single, sizes, some_behind, table, unit, up_to, usage}
unfoldable pub use Rattle.reading.specs.Commands.{absent_rule, bad_edge, bad_table, bad_use, carrying, command_at, contradictory, empty_rule, kind_of, late}
unfoldable pub use Rattle.reading.specs.Commands.{miscounted, of_kind}
pub use Rattle.reading.specs.Layout.{All, AllDistinct, Contents, CountRight, Element, GoodEdge, GoodOnce, GoodRule, GoodTable, GoodUse, IsByte, IsPlan}
pub use Rattle.reading.specs.Layout.{OnceElement, Records, RuleWords, Sizes, SizesAgree, TableUse, TableWords, UnitPair, WithinLimits, at_most}
pub use Rattle.reading.specs.Layout.{count_bytes, edge_bytes, end_bytes, first_sizes, given_bytes, kind_count, layout, list_of, rule_bytes, show_bytes}
pub use Rattle.reading.specs.Layout.{table_bytes, two_words, unit_bytes, use_bytes, word_bytes}
unfoldable pub use Rattle.reading.specs.Layout.{bytes_of, commands, predecessors_of, record_of, rule_words, uses_of, word_of}
pub use Rattle.reading.specs.Progress.{Reached, kind_of_step, place_at}
pub use Rattle.reading.specs.Reading.{DECIDING_BYTES, LONGEST_PLAN, ReadPlan, Step, accepted, command_bytes, ended, onward, refused, step_of}
unfoldable pub use Rattle.reading.specs.Reading.{reading, walk}
pub use Rattle.reading.specs.Refusals.{BytesAfterEnd, ContradictoryRule, CutShort, Differs, Line, Miscounted, NamesAbsentRule, NoNewEdge, NoNewUse}
pub use Rattle.reading.specs.Refusals.{NoRoom, NoTable, OneTooMany, OutOfGroupOrder, ReadingJudged, Stopped, TooLate, UnknownByte, WrongEdge}
pub use Rattle.reading.specs.Refusals.{WrongTable, WrongUse, ZeroRule, again, another_sign, before_end, behind_edges, count_line, edge_line, end_line}
pub use Rattle.reading.specs.Refusals.{fault_row, given_line, in_edges, in_rules, in_units, inside_operands, late_count, late_edge, late_given}
pub use Rattle.reading.specs.Refusals.{late_rule, late_table, late_unit, late_use, no_such_row, no_such_rule, no_such_table, no_such_u, no_such_v}
pub use Rattle.reading.specs.Refusals.{reading_place_of, repeated, rule_line, second_show, seven_inputs, seventeenth_table, seventeenth_unit, show_line}
pub use Rattle.reading.specs.Refusals.{sixty_fifth_rule, table_line, to_itself, two_hundred_fifty_seventh_use, unit_line, use_line}
pub use Rattle.reading.specs.Words.{BYTE_VALUES, WORD_BYTES, WORD_VALUES}
unfoldable pub use Rattle.reading.specs.Words.{spelled, word_at}
pub use Rattle.reading.specs.declared.command.Command.{Command}
pub use Rattle.reading.specs.declared.command.Command.TheVariants.{Count, Edge, End, Fault, Given, Rule, Show, Table, Unit, Use}
