-- What the proofs of this crate name of the kit, of the crates below and of its own definitions, each with its home.
pub use Rattle.atoms.proofs.Kit.{Bool, ◌<◌, ◌∙◌, ◌≡◌, ◌≤◌, ◌⊎◌, arith, false, false≢true, inl, inr, lt_of_lt_of_le, needs, not, not-false, not-true, ones}
pub use Rattle.atoms.proofs.Kit.{refl, sym, true, ℕ}
pub use Rattle.atoms.proofs.Sets.{atom_only, cut_left, decides_subset, empty, ext, has_atom, has_below, has_dec, has_left, has_none, has_outside, has_right}
pub use Rattle.atoms.proofs.Sets.{has_without, outside_lacks, outside_lt, subset_refl, subset_trans, union_cases, without_left, without_right}
pub use Rattle.atoms.specs.Word.{ATOMS, Apart, AtMostOne, EVERY_ATOM, Has, ◌∖◌, ◌∩◌, ◌∪◌, ◌⊆◌, atom, outside, subset}
unfoldable pub use Rattle.atoms.specs.Word.{below}
pub use Rattle.states.specs.Narrowing.{Narrows, OneGoes, Overlaps, SomeDown, SomeGoes, SomeUp, Wanted, Within, branch_of, decided_word, with_dropped, with_up}
unfoldable pub use Rattle.states.specs.Narrowing.{clashed}
pub use Rattle.states.specs.State.{Completes}
unfoldable pub use Rattle.states.specs.State.{undecided}
pub use Rattle.states.specs.declared.state.State.{State}
