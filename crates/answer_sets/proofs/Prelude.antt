-- What the proofs of this crate name of the kit, of the crates below and of its own definitions, each with its home.
pub use Rattle.answer_sets.specs.AnswerSet.{AnswerSet, Kept, ReductModel}
pub use Rattle.answer_sets.specs.Known.{BodySays, InBody, IsWord, Part, PartHolds, PartsSay, RowsSay, Says, WordSays, WordsSay, both, has_negative}
pub use Rattle.answer_sets.specs.Known.{has_positive, has_use, is_negative, is_positive, negative_word, opposite, positive_word, table_use}
pub use Rattle.answer_sets.specs.Lent.{IsLent, Lent, USE_BITS, inputs, looks, negative, rule_at, rule_count_of, truth, uses}
unfoldable pub use Rattle.answer_sets.specs.Lent.{asks, lent, numbered, use_holds, used_inputs, used_table, uses_hold}
pub use Rattle.answer_sets.specs.Program.{Body, Program, Satisfies, SatisfiesAll}
pub use Rattle.answer_sets.specs.RulePass.{AlwaysSatisfied, HeldInAll, RuleStepped, Sifted}
pub use Rattle.answer_sets.specs.SubsetTest.{Between, Candidates, Confines, Finds, InRule, Lasts, Tries, UNBOUNDED, in_head, in_looks, in_positive}
pub use Rattle.answer_sets.specs.SubsetTest.{subsets_of}
pub use Rattle.answer_sets.specs.Test.{RefutedBy, Smaller, SmallerSet, SubsetTested, TestDue, TestSettled}
unfoldable pub use Rattle.answer_sets.specs.Test.{answer_set, body, kept, kept_if, satisfies, satisfies_all, some_smaller}
pub use Rattle.answer_sets.specs.declared.rule_pass.Passed.{Passed}
pub use Rattle.answer_sets.specs.declared.truth.Truth.{Truth}
pub use Rattle.answer_sets.specs.declared.truth.Truth.TheVariants.{Fails, Holds, Open}
pub use Rattle.atoms.proofs.Bounded.{all_in_at, all_in_intro, decides_all_in, decides_some, some_at, some_intro, union_at, union_has, word_at, word_has}
pub use Rattle.atoms.proofs.Kit.{Bool, List, ◌&&◌, ◌*◌, ◌+◌, ◌-◌, ◌<◌, ◌^◌, ◌↔◌, ◌∙◌, ◌≡◌, ◌≤◌, ◌⊎◌, ap, ap₂, arith, false}
pub use Rattle.atoms.proofs.Kit.{false≢true, get_or, inl, inr, le-ltb, length, length-replicate, lt-ltb}
pub use Rattle.atoms.proofs.Kit.{lt_of_le_of_lt, min, needs, not, not-false, not-true, ones, pow-suc, refl, replicate, subst, suc, sym, true}
pub use Rattle.atoms.proofs.Kit.{true≢false, zero, ℕ, ℕ_discrete}
pub use Rattle.atoms.proofs.Sets.{apart_of_cut, atom_only, below_lt, cut_fits, cut_left, cut_right, decides_apart, decides_has, decides_subset, ext, has_atom}
pub use Rattle.atoms.proofs.Sets.{has_below, has_cut, has_dec, has_left, has_lt, has_none, has_outside, has_right, has_without, lt_of_has, outside_lacks}
pub use Rattle.atoms.proofs.Sets.{shared_atom, some_atom, subset_antisym, subset_dec, subset_le, subset_lt, subset_refl, subset_trans, union_cases}
pub use Rattle.atoms.proofs.Sets.{union_fits, without_fits, without_left, without_right}
pub use Rattle.atoms.proofs.TakenNumbers.{Carrying, Sifts, Taking, carrying_more, sifts_drop, sifts_end, sifts_keep, taken_lent}
pub use Rattle.atoms.proofs.TakenNumbers.{taking_more, taking_next}
pub use Rattle.atoms.proofs.Tests.{and-true, bool_ext, decided, decided_false, decided_true, decides_and, decides_iff, decides_implies, decides_not}
pub use Rattle.atoms.proofs.Tests.{decides_same, false_of_not_true, not_both, not_is_true, test_cases, true_of_not_false}
pub use Rattle.atoms.specs.Bounded.{Decides, all_in, some_below, union_in}
pub use Rattle.atoms.specs.Collected.{Collects}
pub use Rattle.atoms.specs.Word.{ATOMS, Apart, AtMostOne, EVERY_ATOM, Has, Lowest, SomeOf, ◌∖◌, ◌∩◌, ◌∪◌, ◌⊂◌, ◌⊆◌, apart, atom, below, has, outside, subset}
pub use Rattle.contact_tables.specs.ContactTable.{row}
unfoldable pub use Rattle.contact_tables.specs.ContactTable.{table_answer}
pub use Rattle.plan.specs.Limits.{CONTACT_WORDS, MAX_RULES, MAX_TABLES}
pub use Rattle.states.proofs.Branches.{decided_falls, pass_falls}
pub use Rattle.states.proofs.HalfDecided.{decided_cases, undecided_intro}
pub use Rattle.states.proofs.Narrows.{completes_back, down_narrows, narrows_for, narrows_refl, narrows_trans, overlap_none, up_narrows, with_all_dropped}
pub use Rattle.states.proofs.Narrows.{with_all_up, with_dropped_lem, with_up_lem, without_dropped, without_up}
pub use Rattle.states.specs.Narrowing.{Narrows, OneGoes, SomeUp, branch_of}
pub use Rattle.states.specs.State.{Completes, half_decided, undecided}
pub use Rattle.states.specs.declared.state.State.{State}
