-- What the proofs of this crate name of the kit, of the crates below and of its own definitions, each with its home.
pub use Rattle.atoms.proofs.Bounded.{union_at, union_has, word_at, word_has}
pub use Rattle.atoms.proofs.Collected.{collects_has, collects_iff, collects_union, collects_word}
pub use Rattle.atoms.proofs.Counts.{taken_less}
pub use Rattle.atoms.proofs.Kit.{Bool, List, [], ◌&&◌, ◌+◌, ◌-◌, ◌<◌, ◌^◌, ◌↔◌, ◌∙◌, ◌∷◌, ◌≡◌, ◌≤◌, ◌⊎◌, ap, arith, dec_lt, false, get_or, inl, inr, ltb-false}
pub use Rattle.atoms.proofs.Kit.{ltb-true, needs, not, not-false, not-true, ones, pow_mono, refl, subst, suc, sym, true, zero, ℕ, ℕ_discrete}
pub use Rattle.atoms.proofs.Sets.{atom_only, below_lt, cut_left, cut_right, decides_apart, decides_has, decides_subset, ext, has_atom, has_below, has_cut}
pub use Rattle.atoms.proofs.Sets.{has_dec, has_left, has_lt, has_none, has_right, has_without, lt_of_has, union_cases, without_left, without_right}
pub use Rattle.atoms.proofs.Singles.{has_of_test, lacks_of_test, single_if_at, single_if_has}
pub use Rattle.atoms.proofs.Tests.{and-true, decided_true, decides_iff}
pub use Rattle.atoms.specs.Bounded.{Decides, single_if, union_in}
unfoldable pub use Rattle.atoms.specs.Bounded.{word_below}
pub use Rattle.atoms.specs.Collected.{Collects}
pub use Rattle.atoms.specs.Word.{ATOMS, Apart, Has, Lowest, ◌∖◌, ◌∩◌, ◌⊆◌, apart, below, digit, subset}
unfoldable pub use Rattle.atoms.specs.Word.{◌∪◌, atom, has}
unfoldable pub use Rattle.contact_tables.specs.ContactTable.{place, row, table_answer}
pub use Rattle.contact_tables.specs.TableRows.{BitAgrees, EachRow, InColumn, NoRow, ROWS, RowReached}
pub use Rattle.plan.specs.Limits.{MAX_INPUTS}
pub use Rattle.states.specs.State.{Completes, half_decided}
