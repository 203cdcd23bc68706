-- What the proofs of this crate name of the kit, of the crates below and of its own definitions, each with its home.
pub use Rattle.answer_sets.proofs.Bodies.{body_parts, parts_body, said, table_first, table_second, wanted_false, wanted_true}
pub use Rattle.answer_sets.specs.Lent.{Lent, USE_BITS, asks, inputs, negative, rule_at, truth, used_table, uses}
unfoldable pub use Rattle.answer_sets.specs.Lent.{lent, use_holds}
pub use Rattle.atoms.proofs.Bounded.{union_at, union_has}
pub use Rattle.atoms.proofs.Kit.{Bool, List, get_or-eq_default, ◌*◌, ◌+◌, ◌-◌, ◌/◌, ◌<◌, ◌^◌, ◌↔◌, ◌∙◌, ◌≡◌, ◌≤◌, ◌⊎◌, ap, ap₂, arith, dec_lt, eqb, false}
pub use Rattle.atoms.proofs.Kit.{false≢true, get_or, get_or-set_other, get_or-set_same, get_or-take, inl, inr, length, length-set, length-take-le, needs, not}
pub use Rattle.atoms.proofs.Kit.{not-false, not-true, ones, paste, refl, set, subst, sym, take, true, true≢false, ℕ, ℕ_discrete}
pub use Rattle.atoms.proofs.Sets.{atom_only, cut_left, decides_apart, decides_has, decides_subset, empty, ext, has_cut, has_dec, has_left, has_lt, has_none}
pub use Rattle.atoms.proofs.Sets.{has_outside, has_right, has_without, outside_lacks, some_atom, subset_refl, union_cases, union_none_right, without_left}
pub use Rattle.atoms.proofs.Sets.{without_right}
pub use Rattle.atoms.proofs.TakenNumbers.{Taking, taken_lent, taking_end, taking_next, taking_start}
pub use Rattle.atoms.proofs.Tests.{decided_false, decided_true, decides_equal, decides_iff}
pub use Rattle.atoms.specs.Bounded.{Decides, union_in}
pub use Rattle.atoms.specs.Collected.{Collects}
pub use Rattle.atoms.specs.Word.{ATOMS, Apart, Has, Lowest, ◌∖◌, ◌∩◌, ◌∪◌, ◌⊂◌, ◌⊆◌, apart, atom, outside, subset}
pub use Rattle.contact_tables.proofs.RowBits.{UpAt, row_bit, row_lt}
pub use Rattle.contact_tables.specs.ContactTable.{row}
unfoldable pub use Rattle.contact_tables.specs.ContactTable.{table_answer}
pub use Rattle.contact_tables.specs.TableRows.{EachRow, NoRow, RowReached}
pub use Rattle.pilots.specs.Linked.{LINKED_WORDS, Linked, LinkedRule, NoPilots, PilotsWithin, Plain, RuleLinked, RulesLinked, ToldUses, off_pilots}
pub use Rattle.pilots.specs.Linked.{on_pilots, written}
pub use Rattle.pilots.specs.Pilots.{FollowAll, FollowsTable, FollowsWords, RowAmong}
pub use Rattle.plan.specs.Limits.{CONTACT_WORDS, FIRST_RULE, MAX_INPUTS, MAX_TABLES, RULE_WORDS}
pub use Rattle.states.proofs.Narrows.{clash_narrows, down_narrows, narrows_refl, narrows_trans, narrows_when, up_narrows}
pub use Rattle.states.specs.State.{Completes, half_decided}
