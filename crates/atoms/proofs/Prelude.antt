-- What the proofs of this crate name of the kit, of the crates below and of its own definitions, each with its home.
pub use Rattle.atoms.proofs.Kit.{Bool, List, List-as-Memᴰ, Memᴰ-append_cases, Memᴰ-cases_cons, Memᴰ-eq_of_singleton, Memᴰ-head}
pub use Rattle.atoms.proofs.Kit.{Memᴰ-not-nil, Memᴰ-tail, get_or-append, Memᴰ-append_left, Memᴰ-append_right, [], ◌%◌, ◌&&◌, ◌*◌, ◌++◌}
pub use Rattle.atoms.proofs.Kit.{◌+◌, ◌-◌, ◌/◌, ◌<◌, ◌^◌, ◌||◌, ◌↔◌, ◌∙◌, ◌∷◌, ◌≡◌, ◌≤◌, ◌⊎◌, add-mul-mod_self_left, add-one, and_le_l, and_le_r}
pub use Rattle.atoms.proofs.Kit.{and_shr, and_step, ap, append_assoc, ap₂, arith, bin_ind, bit_and, bit_or, bit_xor, dec_lt, div-eq_of_lt}
pub use Rattle.atoms.proofs.Kit.{div-lt_iff_lt-mul, div-one, drop, drop_at, drop-cons, drop_of_length-le, eq-eqb, eqb, eqb-false, eqb-true, ext_get_or}
pub use Rattle.atoms.proofs.Kit.{false, false≢true, get_or, get_or-set_other, get_or-set_same, inl, inr, le-div_iff_mul-le, le-ltb, leading_le, leading_top}
pub use Rattle.atoms.proofs.Kit.{count_leading_zeros, length, length-append, length-paste, length-replicate, length-set, lt-ltb, ltb-false, ltb-true, max}
pub use Rattle.atoms.proofs.Kit.{min, mod-eq_of_lt, mul-add, mul_assoc, ne_eqb, needs, not, ones-le, ones_step, or_lt, or_shr, or_step, paste}
pub use Rattle.atoms.proofs.Kit.{paste-suc, paste-zero, pow_mono, pow_pos, pow-suc, pow-succ', refl, replicate, set, set_at, shl_exact, shr-shr, subst}
pub use Rattle.atoms.proofs.Kit.{suc, sym, take, take_all, take_at, take-paste, trailing_le, true, true≢false, under, xor_add_and, xor_shr, zero, ℕ}
pub use Rattle.atoms.proofs.Kit.{ℕ_discrete}
unfoldable pub use Rattle.atoms.proofs.Kit.{ones, count_trailing_zeros}
pub use Rattle.atoms.specs.Bounded.{Decides, all_in}
unfoldable pub use Rattle.atoms.specs.Bounded.{all_below, single_if, some_below, union_in, word_below}
pub use Rattle.atoms.specs.Collected.{Collects, Least}
unfoldable pub use Rattle.atoms.specs.Collected.{lowest, lowest_of}
pub use Rattle.atoms.specs.Rising.{Above, Rising, above_cons, above_nil, rising_cons, rising_nil}
unfoldable pub use Rattle.atoms.specs.Rising.{insert_into, members}
pub use Rattle.atoms.specs.Tally.{HighestCount, MostCounted, Tallied}
unfoldable pub use Rattle.atoms.specs.Tally.{preferred, tallied}
pub use Rattle.atoms.specs.Word.{ATOMS, Apart, AtMostOne, EVERY_ATOM, Has, Highest, Lowest, SomeOf, ◌⊂◌, ◌⊆◌, digit}
unfoldable pub use Rattle.atoms.specs.Word.{◌∖◌, ◌∩◌, ◌∪◌, apart, atom, below, has, high, outside, subset}
