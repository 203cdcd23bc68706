-- What the proofs of this crate name of the kit, of the crates below and of its own definitions, each with its home.
pub use Rattle.atoms.proofs.Bounded.{all_in_at, all_in_fails, all_in_intro, all_in_none, some_at, some_intro, some_none}
pub use Rattle.atoms.proofs.Counts.{taken_less}
pub use Rattle.atoms.proofs.Kit.{Bool, List, ◌%◌, ◌*◌, ◌+◌, ◌-◌, ◌/◌, ◌<◌, ◌^◌, ◌∙◌, ◌≡◌, ◌≤◌, ◌⊎◌, ap, ap₂, arith, below_more, below_none, eq-eqb, eqb}
pub use Rattle.atoms.proofs.Kit.{eqb-true, false, false≢true, drop, get_or, get_or-drop, get_or-take, length-drop, length-take, take, get_or-set_other}
pub use Rattle.atoms.proofs.Kit.{get_or-set_same, inl, inr, length, length-set, min, needs, not, not-false}
pub use Rattle.atoms.proofs.Kit.{not-true, ones, refl, set, subst, sym, true, ℕ, ℕ_discrete}
pub use Rattle.atoms.proofs.Sets.{atom_only, below_lt, cut_left, cut_right, decides_subset, ext, has_atom, has_below, has_cut, has_left, has_lt, has_right}
pub use Rattle.atoms.proofs.Sets.{has_without, lt_of_has, subset_le, subset_refl, subset_trans, union_cases, without_fits, without_left, without_right}
pub use Rattle.atoms.proofs.TakenNumbers.{Carrying, Taking, carrying_next, carrying_start, taken_lent, taken_lt, taking_end, taking_more, taking_next}
pub use Rattle.atoms.proofs.TakenNumbers.{taking_start}
pub use Rattle.atoms.specs.Word.{ATOMS, Has, Lowest, ◌∖◌, ◌∩◌, ◌∪◌, ◌⊆◌, atom, below, subset}
pub use Rattle.joining.specs.Filter.{BLOCKS, BlockSifted, EntryAgrees, EntrySifted, FILTER_WORDS, Filtered, Full, JoinsAll, ListSifted, Picked, Refined}
pub use Rattle.joining.specs.Filter.{Spans}
pub use Rattle.joining.specs.Joins.{Joinable}
unfoldable pub use Rattle.joining.specs.Joins.{is_among, is_listed, joins}
pub use Rattle.plan.specs.Limits.{LIST_WORDS, MAX_UNITS}
pub use Rattle.states.specs.Narrowing.{Narrows, Overlaps, branch_of, clashed}
