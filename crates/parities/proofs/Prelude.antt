-- What the proofs of this crate name of the kit, of the crates below and of its own definitions, each with its home.
pub use Rattle.answer_sets.proofs.Bodies.{parts_body, table_first, table_second, wanted_false, wanted_true}
pub use Rattle.answer_sets.specs.Lent.{USE_BITS, inputs, lent, looks, negative, truth, use_holds, used_table, uses}
pub use Rattle.answer_sets.specs.Program.{Body, Satisfies, SatisfiesAll}
pub use Rattle.atoms.proofs.Collected.{collects_has, collects_iff, collects_union_in}
pub use Rattle.atoms.proofs.Counts.{counts_small, taken_less, taken_within}
pub use Rattle.atoms.proofs.Digits.{and_at, digit_low, digit_lt, digit_next, digit_zero, no_digit, or_at, sub_at}
pub use Rattle.atoms.proofs.GatheredWords.{Gathers, gathers_end, gathers_next}
pub use Rattle.atoms.proofs.Kit.{Bool, List, ◌%◌, ◌*◌, ◌+◌, ◌-◌, ◌/◌, ◌<◌, ◌^◌, ◌∙◌, ◌≡◌, ◌≤◌, ◌⊎◌, ap, ap₂, arith, bin_ind, dec_lt, eqb, eqb-true, false}
pub use Rattle.atoms.proofs.Kit.{false≢true, get_or, get_or-replicate, get_or-set_other, get_or-set_same, inl, inr, length, length-set, needs, not, not-false}
pub use Rattle.atoms.proofs.Kit.{not-true, ones_step, pow_mono, pow-suc, refl, replicate, set, subst, suc, sym, true, true≢false, zero, ℕ, ℕ_discrete}
unfoldable pub use Rattle.atoms.proofs.Kit.{ones}
pub use Rattle.atoms.proofs.Sets.{atom_only, below_lt, cut_fits, cut_left, cut_of_apart, cut_right, decides_has, decides_subset, empty, ext, has_atom}
pub use Rattle.atoms.proofs.Sets.{has_below, has_cut, has_dec, has_left, has_lt, has_none, has_right, has_without, lt_of_has, some_atom, subset_refl}
pub use Rattle.atoms.proofs.Sets.{subset_trans, union_cases, union_fits, union_none_left, without_fits, without_left, without_right}
pub use Rattle.atoms.proofs.Singles.{lacked_by, numbered_by, single_if_at, single_if_has}
pub use Rattle.atoms.proofs.TakenNumbers.{Carrying, carrying_next, carrying_start, done_more, taken_lent}
pub use Rattle.atoms.proofs.Tests.{decided_false, decided_true, decides, decides_equal, decides_iff}
pub use Rattle.atoms.specs.Bounded.{Decides, single_if}
unfoldable pub use Rattle.atoms.specs.Bounded.{all_below, union_in}
pub use Rattle.atoms.specs.Collected.{Collects}
pub use Rattle.atoms.specs.Word.{ATOMS, Apart, AtMostOne, Has, Lowest, ◌⊆◌, apart, below, digit, has, subset}
unfoldable pub use Rattle.atoms.specs.Word.{◌∖◌, ◌∩◌, ◌∪◌, atom}
unfoldable pub use Rattle.contact_tables.specs.ContactTable.{place, row, table_answer}
pub use Rattle.parities.specs.Parity.{ODD_ROWS, Parity, ParityAtom, ParityTable, even_truth, odd_truth}
unfoldable pub use Rattle.parities.specs.Parity.{◌△◌, odd}
pub use Rattle.parities.specs.ParityRows.{BitPut, RowHolds, RowsGathered, RowsHold, SUM_ROWS, SameRows, open_row, table_row}
pub use Rattle.parities.specs.Told.{Held, Summed, TellsParity, ToldAtom, use_row}
pub use Rattle.parities.specs.declared.rows.Row.{Row}
pub use Rattle.pilots.specs.Pilots.{FollowAll, FollowsWords}
pub use Rattle.plan.specs.Limits.{FIRST_RULE, MAX_INPUTS, MAX_TABLES}
pub use Rattle.states.proofs.Narrows.{down_narrows, narrows_for, narrows_refl, narrows_trans, narrows_when}
pub use Rattle.states.specs.Narrowing.{Narrows, SomeUp}
pub use Rattle.states.specs.State.{Completes, undecided}
pub use Rattle.states.specs.declared.state.State.{State}
