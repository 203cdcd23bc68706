-- The names of the kit that proofs use, each with its home.
pub use Prim.Native.Nat.{◌%◌, ◌*◌, ◌+◌, ◌-◌, ◌/◌, ◌<◌, ◌^◌, ◌≤◌, max, min, suc, zero, ℕ}
pub use borrow.Author.Count.{below_more, below_none}
pub use borrow.Author.Fill.{fill_more}
pub use borrow.Author.Rules.{rules as needs}
pub use borrow.Author.Tests.{eq-eqb, eqb-false, eqb-true, le-leb, le-ltb, leb-false, leb-true, lt-leb, lt-ltb, ltb-false, ltb-true, ne_eqb, not-false}
pub use borrow.Author.Tests.{not-true}
pub use borrow.Fn.Kinds.{In}
pub use borrow.Fn.PlainCycle.{Measures, and, falls, is}
pub use borrow.Rule.Slice.PartMut.{drop_put, mid_len, mid_of, post_of, put_mid, same_len_mid}
pub use denote.Array.{each}
pub use denote.Enum.Declared.{tag_of}
pub use denote.Exit.{yes}
pub use lib.Arith.{bin_ind, digits_div, digits_lt, digits_mod}
pub use lib.Bits.{and_le_l, and_le_r, and_shifted, and_shr, and_step, bit_and, bit_or, bit_xor, or_lt, or_shr, or_step, xor_add_and, xor_shr}
pub use lib.Count.{leading_le, leading_top, count_leading_zeros, ones-le, ones_step, trailing_le, under}
unfoldable pub use lib.Count.{ones, count_trailing_zeros}
pub use lib.Dec.{T, eqb, leb, leb-suc-zero, ltb}
pub use lib.ListN.{get_or-append, get_or-eq_default, drop, drop_of_length-le, get_or, get_or-replicate, length, length-append, length-drop, length-map}
pub use lib.ListN.{length-replicate, length-set, length-take, replicate, replicate-append-replicate, set, take, take-append-drop}
pub use lib.Pow.{pow_mono, pow_pos, shl_exact, shl-shr, shr-shr, suc_ones}
pub use lib.Seq.{append_snoc, drop-append-add, drop-append-le, drop_at, drop-cons, drop-drop, drop-set-lt, ext_get_or, get_or-append-add, get_or-append_seam}
pub use lib.Seq.{get_or_at, get_or-drop, get_or-set_other, get_or-set_same, get_or-take, length-paste, length-take-le, paste, paste-suc, paste-zero}
pub use lib.Seq.{set-append_left, set_at, set_split, take_all, take-append-add, take_at, take-nil, take-paste, take-suc, take-suc-set, take-take}
pub use mathlib.Core.Bool.{Bool, ◌&&◌, ◌||◌, false, false≢true, not, or_assoc, or-false, or-true, true, true≢false}
pub use mathlib.Core.List.Memᴰ.{append_cases as Memᴰ-append_cases}
pub use mathlib.Core.List.Memᴰ.{cases_cons as Memᴰ-cases_cons}
pub use mathlib.Core.List.Memᴰ.{eq_of_singleton as Memᴰ-eq_of_singleton}
pub use mathlib.Core.List.Memᴰ.{head as Memᴰ-head}
pub use mathlib.Core.List.Memᴰ.{not-nil as Memᴰ-not-nil}
pub use mathlib.Core.List.{List, Memᴰ as List-as-Memᴰ}
pub use mathlib.Core.List.Memᴰ.{append_left as Memᴰ-append_left}
pub use mathlib.Core.List.Memᴰ.{append_right as Memᴰ-append_right}
pub use mathlib.Core.List.Memᴰ.{cast as Memᴰ-cast}
pub use mathlib.Core.List.Memᴰ.{map as Memᴰ-map}
pub use mathlib.Core.List.Memᴰ.{of_map as Memᴰ-of_map}
pub use mathlib.Core.List.Memᴰ.{tail as Memᴰ-tail}
pub use mathlib.Core.List.{[], ◌++◌, ◌∷◌, append_assoc, append-nil}
pub use mathlib.Core.List.{map}
unfoldable pub use mathlib.Core.List.{flat_map}
pub use mathlib.Core.Logic.{◌↔◌, ◌⊎◌, inl, inr}
pub use mathlib.Core.Option.{Option, none, some}
pub use mathlib.Core.Path.{◌∙◌, ◌≡◌, ap, ap₂, refl, subst, subst₂, sym}
pub use mir.Val.{bool_byte, has_key}
pub use native.Mathlib.Decide.{dec_le, dec_lt, ℕ_discrete}
pub use native.Mathlib.Nat.{add-mul, add-mul-mod_self_left, add-zero, div-add-mod, div-add-mod', div-eq_of_lt, div-lt_iff_lt-mul}
pub use native.Mathlib.Nat.{div-mul-le_self, div-one, le-div_iff_mul-le, lt_of_le_of_lt, lt_of_lt_of_le, mod-eq_of_lt, mod-lt, mul-add}
pub use native.Mathlib.Nat.{mul-add-div, mul-add-div_right, mul-add-mod_self_left, mul-add-mod_self_right, mul_assoc, mul_comm, mul-le-mul_left}
pub use native.Mathlib.Nat.{mul-le-mul_right, mul-lt-mul_of_pos_left, mul-suc, pow-le-pow_right, pow-suc, pow-succ', pow-zero, zero-add}
pub use native.Mathlib.Numerals.{add-one}
pub use native.Mathlib.Omega.{arith}
pub use types.Part.{whole}
pub use types.Run.{OneOf}
pub use types.Run.{miss}
pub use types.Run.{returns}
