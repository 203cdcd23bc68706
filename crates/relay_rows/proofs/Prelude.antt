-- What the proofs of this crate name of the kit, of the crates below and of its own definitions, each with its home.
pub use Rattle.atoms.proofs.Bounded.{all-at, word_at, word_has}
pub use Rattle.atoms.proofs.Kit.{Bool, List, ◌%◌, ◌&&◌, ◌*◌, ◌++◌, ◌+◌, ◌-◌, ◌/◌, ◌<◌, ◌^◌, ◌↔◌, ◌∙◌, ◌≡◌, ◌≤◌, ◌⊎◌, and_shifted, ap, ap₂, arith, dec_lt}
pub use Rattle.atoms.proofs.Kit.{div-add-mod, div-add-mod', div-eq_of_lt, div-lt_iff_lt-mul, drop, ext_get_or, false, false≢true, get_or, get_or-append-add}
pub use Rattle.atoms.proofs.Kit.{get_or-drop, get_or-set_other, get_or-set_same, inl, inr, le-ltb, length, length-append, length-drop, length-replicate}
pub use Rattle.atoms.proofs.Kit.{length-set}
pub use Rattle.atoms.proofs.Kit.{lt-ltb, ltb, ltb-true, mod-eq_of_lt, mod-lt, mul-add-div, mul-add-div_right, mul-add-mod_self_left, mul-add-mod_self_right}
pub use Rattle.atoms.proofs.Kit.{mul-lt-mul_of_pos_left, needs, not, not-false, not-true, pow_mono, pow_pos, pow-suc, refl, replicate, set, shl_exact}
pub use Rattle.atoms.proofs.Kit.{shl-shr, subst, suc, sym, true, true≢false, zero, ℕ, ℕ_discrete}
pub use Rattle.atoms.proofs.Sets.{apart_of_cut, atom_only, below_lt, cut_left, cut_right, decides_has, empty, ext, has_atom, has_below, has_cut, has_dec}
pub use Rattle.atoms.proofs.Sets.{has_left, has_lt, has_none, has_right, has_without, lt_of_has, subset_le, union_cases, without_left, without_right}
pub use Rattle.atoms.proofs.Tests.{decided_false, decided_true, decides, decides_and, not_both}
pub use Rattle.atoms.specs.Bounded.{Decides}
unfoldable pub use Rattle.atoms.specs.Bounded.{all_below, word_below}
pub use Rattle.atoms.specs.Word.{ATOMS, EVERY_ATOM, Has, ◌∪◌, ◌⊆◌, apart}
unfoldable pub use Rattle.atoms.specs.Word.{◌∖◌, ◌∩◌, atom, below, has}
pub use Rattle.relay_rows.specs.Columns.{BlockRead, FilledColumns, Scattered, Writable, kept_from}
unfoldable pub use Rattle.relay_rows.specs.Columns.{column}
pub use Rattle.relay_rows.specs.Exchange.{Alternates, Crossed, Exchangeable, Halved}
unfoldable pub use Rattle.relay_rows.specs.Exchange.{exchanged_word, mixed, swapped}
pub use Rattle.relay_rows.specs.RelaySheet.{AREA_WORDS, ROW_WORDS, position_shape, position_word, row_shape, row_word}
pub use Rattle.relay_rows.specs.RowAnswers.{PositionsWritten, Rearranges, Refusable, RowBit, RowsWritten, Suits, Untouched, rows_code}
pub use Rattle.relay_rows.specs.Turned.{Bit, Shape, Turned, columns}
unfoldable pub use Rattle.relay_rows.specs.Turned.{bit, turned_area, turned_word}
pub use Rattle.std.specs.Prelude.{Err, Ok}
