-- What the proofs of this crate name of the kit, of the crates below and of its own definitions, each with its home.
pub use Rattle.answer_sets.specs.Lent.{USE_BITS, inputs, looks, negative, rule_at, truth, uses}
unfoldable pub use Rattle.answer_sets.specs.Lent.{asks, lent, use_holds, used_inputs, used_table, uses_hold}
pub use Rattle.atoms.proofs.Kit.{Bool, List, List-as-Memᴰ, Memᴰ-eq_of_singleton, Memᴰ-head, Memᴰ-not-nil, get_or-append, [], ◌*◌, ◌++◌, ◌+◌}
pub use Rattle.atoms.proofs.Kit.{◌-◌, ◌<◌, ◌^◌, ◌↔◌, ◌∙◌, ◌∷◌, ◌≡◌, ◌≤◌, ◌⊎◌, ap, arith, false, get_or, get_or-append-add, inl, inr, le-ltb, length}
pub use Rattle.atoms.proofs.Kit.{length-append, lt-ltb, ltb, not, ones, refl, subst, suc, sym, true, zero, ℕ}
unfoldable pub use Rattle.atoms.proofs.Kit.{flat_map}
pub use Rattle.atoms.proofs.Sets.{below_lt, cut_left, cut_right, decides_apart, decides_has, ext, has_below, has_cut, has_dec, has_left, has_lt, has_none}
pub use Rattle.atoms.proofs.Sets.{has_right, union_cases}
pub use Rattle.atoms.proofs.Tests.{and-true, decided_false, decided_true, false_of_not_true, not_both, not_is_true}
pub use Rattle.atoms.specs.Word.{ATOMS, Apart, EVERY_ATOM, Has, ◌∩◌, ◌⊂◌, ◌⊆◌, apart, has}
unfoldable pub use Rattle.atoms.specs.Word.{below}
pub use Rattle.contact_tables.specs.ContactTable.{row}
unfoldable pub use Rattle.contact_tables.specs.ContactTable.{place, table_answer}
pub use Rattle.plan.specs.Limits.{CONTACT_WORDS, FIRST_RULE, MAX_INPUTS, MAX_RULES, MAX_TABLES, MAX_UNITS, RULE_WORDS}
pub use Rattle.plan.specs.declared.record.Plan.{Plan}
pub use Rattle.plan_meaning.specs.Meaning.{LooksAt, Means, Number, RestHolds, RuleMeans, UseHolds, first, input, later}
pub use Rattle.plan_meaning.specs.Tables.{KthInput, RowAt, TrueAt}
pub use Rattle.reading.specs.Layout.{All, Contents, GoodTable, GoodUse, Lays, RuleWords, TableUse, TableWords, UnitPair, WithinLimits, two_words}
unfoldable pub use Rattle.reading.specs.Layout.{predecessors_of, record_of, rule_words, uses_of}
pub use Rattle.reading.specs.Reading.{ReadPlan, reading}
