-- The two ways at 64 atoms and 256 positions: what is written has the bits that document 02, S-9 says, and the way there and back.
use Rattle.relay_rows.proofs.Prelude.{◌≡◌, refl, sym, ◌∙◌, subst, ◌↔◌, inl, inr, List, ℕ, ◌+◌, ◌*◌, ◌/◌, ◌%◌, ◌^◌, ◌≤◌, ◌<◌, arith, dec_lt, ltb, length}
use Rattle.relay_rows.proofs.Prelude.{get_or, ltb-true, lt-ltb, ATOMS, Has, Decides, decides, has_none, Turned, turned_area, AREA_WORDS, position_shape}
use Rattle.relay_rows.proofs.Prelude.{row_shape, row_word, position_word, FilledColumns, Refusable, Suits, RowBit, Untouched, RowsWritten}
use Rattle.relay_rows.proofs.Prelude.{PositionsWritten, Rearranges}
use Rattle.relay_rows.proofs.Prelude.{Ok, Err}
use Rattle.relay_rows.proofs.Turning.{turned_is, bit_back, word_back}
use Rattle.relay_rows.proofs.Filling.{filled_list}
use Rattle.relay_rows.proofs.SheetWords.{position_rest}

-- ---- refusal 22

pub suits_or_not : {read written count : ℕ} → Suits read written count → Refusable read written count → ⊥
suits_or_not s (inl h) = omega (arith, s.read_long)
suits_or_not s (inr (inl h)) = omega (arith, s.written_long)
suits_or_not s (inr (inr h)) = omega (arith, s.count-le)

pub answer_refused : {read before : List ℕ} {count : ℕ} {Right : Type 0} → ¬ Suits (length read) (length before) count
    → Rearranges read before before count Right (Err (record {}))
answer_refused amiss = record { refused = λ h. (refl, refl); written = λ s. absurd (amiss s) }

pub answer_written : {read before after : List ℕ} {count : ℕ} {Right : Type 0} → Suits (length read) (length before) count → Right
    → Rearranges read before after count Right (Ok tt)
answer_written s right = record { refused = λ h. absurd (suits_or_not s h); written = λ t. (refl, right) }

-- ---- what is written

untouched_is : {f : ℕ → ℕ} {before after : List ℕ} → FilledColumns f before after AREA_WORDS → Untouched before after
untouched_is h = record { long = h.long; past = h.untouched }

decides_below : (count j : ℕ) → Decides (j < count) (ltb j count)
decides_below count j = decides (ltb j count) (ltb-true j count) (lt-ltb j count)

module _ (count : ℕ) {read before after : List ℕ} where
  -- the bits of the rows, and of the list, by the definition over any number of rows and columns
  rows_turned : FilledColumns (row_word count read) before after AREA_WORDS → Turned position_shape row_shape (λ i j. j < count) read after
  rows_turned h =
      turned_is position_shape row_shape read (λ i j. j < count) (λ i j. ltb j count) (λ i j. decides_below count j) after (λ w l. h.filled w l)

  positions_turned : FilledColumns (position_word count read) before after AREA_WORDS → Turned row_shape position_shape (λ j i. j < count) read after
  positions_turned h =
      turned_is row_shape position_shape read (λ j i. j < count) (λ j i. ltb j count) (λ j i. decides_below count j) after (λ w l. h.filled w l)

-- a bit of the list, as a row of one word
module _ (list : List ℕ) (j i : ℕ) (l : i < ATOMS) where
  pub list_bit : Has (get_or list (1 * j + i / ATOMS) 0) (i % ATOMS) → Has (get_or list j 0) i
  list_bit h =
      let e : 1 * j + i / 64 ≡ j = omega arith in
      let d : i % 64 ≡ i = omega arith in
      subst (λ (b : ℕ). Has (get_or list j 0) b) d (subst (λ (x : ℕ). Has (get_or list x 0) (i % 64)) e h)

  pub bit_list : Has (get_or list j 0) i → Has (get_or list (1 * j + i / ATOMS) 0) (i % ATOMS)
  bit_list h =
      let e : 1 * j + i / 64 ≡ j = omega arith in
      let d : i % 64 ≡ i = omega arith in
      subst (λ (x : ℕ). Has (get_or list x 0) (i % 64)) (sym e) (subst (λ (b : ℕ). Has (get_or list j 0) b) (sym d) h)

pub rows_written : {list before after : List ℕ} (count : ℕ) → AREA_WORDS ≤ length before → FilledColumns (row_word count list) before after AREA_WORDS
    → RowsWritten list count before after
unfolding turned_area
rows_written {list} {before} {after} count l h =
    record {
      bits = λ i j li lj.
          let b = (rows_turned count h).bits_are i j li lj in (
            λ x. let y = b.0 x in (y.0, list_bit list j i li y.1),
            λ y. b.1 (y.0, bit_list list j i li y.1),
          );
      untouched = untouched_is h;
      is = filled_list h l;
    }

pub positions_written : {rows before after : List ℕ} (count : ℕ) → count ≤ AREA_WORDS → AREA_WORDS ≤ length before
    → FilledColumns (position_word count rows) before after AREA_WORDS → PositionsWritten rows count before after
unfolding turned_area
positions_written {rows} {before} {after} count few l h =
    record {
      below = λ j i lj li.
          let b = (positions_turned count h).bits_are j i (omega arith) (omega arith) in (
            λ x. (b.0 (bit_list after j i li x)).1,
            λ y. list_bit after j i li (b.1 (lj, y)),
          );
      rest = λ j k lj. h.filled j lj ∙ sym (position_rest rows count j k);
      untouched = untouched_is h;
      is = filled_list h l;
    }

-- ---- there and back, from what the two functions promise

module _ {count : ℕ} where
  -- what is promised of the rows and of the list are turns
  turn_there : {list before rows : List ℕ} → RowsWritten list count before rows → Turned position_shape row_shape (λ i j. j < count) list rows
  turn_there {list} w =
      record {
        bits_are = λ i j li lj.
            let b = w.bits i j li lj in (
              λ x. let y = b.0 x in (y.0, bit_list list j i li y.1),
              λ y. b.1 (y.0, list_bit list j i li y.1),
            );
      }

  turn_back : {rows before list : List ℕ} → PositionsWritten rows count before list → Turned row_shape position_shape (λ j i. j < count) rows list
  turn_back {rows} {before} {list} w = record {
    bits_are = λ j i lj li.
        (λ x. there j i lj li x (dec_lt j count), λ y. bit_list list j i li ((w.below j i y.0 li).1 y.1));
  }
    where
      there : (j i : ℕ) → j < AREA_WORDS → i < ATOMS → Has (get_or list (1 * j + i / ATOMS) 0) (i % ATOMS) → Dec (j < count) → (j < count) × RowBit rows i j
      there j i lj li x (yes k) = (k, (w.below j i k li).0 (list_bit list j i li x))
      there j i lj li x (no k) =
          absurd (has_none (subst (λ (y : ℕ). Has y i) (w.rest j (omega arith) lj) (list_bit list j i li x)))

-- "restores every word of the list below the count": the list is lent again, or another one
pub list_restored : {count : ℕ} {list before rows before' list' : List ℕ} → RowsWritten list count before rows
    → PositionsWritten rows count before' list' → (j : ℕ) → j < count → j < AREA_WORDS → get_or list j 0 < 2 ^ ATOMS → get_or list' j 0 < 2 ^ ATOMS
    → get_or list' j 0 ≡ get_or list j 0
list_restored w p j l k fits fits' =
    let e : j / 1 ≡ j = omega arith in
    word_back position_shape row_shape (turn_there w) (turn_back p) (omega arith) (omega arith) j (omega arith)
    (λ i m. (omega arith, omega arith)) fits fits'

-- and the rows below the count come back from their list
pub rows_restored : {count : ℕ} {rows before list before' rows' : List ℕ} → PositionsWritten rows count before list
    → RowsWritten list count before' rows' → (i j : ℕ) → i < ATOMS → j < AREA_WORDS → RowBit rows' i j ↔ ((j < count) × RowBit rows i j)
rows_restored p w i j li lj =
    let b = bit_back row_shape position_shape (turn_back p) (turn_there w) i j li lj lj li in
    (λ x. let y = b.0 x in (y.0, y.1.1), λ y. b.1 (y.0, (y.0, y.1)))
