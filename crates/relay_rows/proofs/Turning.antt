-- Rows for columns over any number of rows and columns: where a bit stands, what the computing twin has there, and the way there and back.
use Rattle.relay_rows.proofs.Prelude.{◌≡◌, sym, ap, ap₂, ◌∙◌, subst, Bool, true, ◌&&◌, ◌↔◌, List, ℕ, zero, suc, ◌+◌, ◌*◌, ◌/◌, ◌%◌, ◌^◌, ◌≤◌, ◌<◌}
use Rattle.relay_rows.proofs.Prelude.{arith, mod-lt, mod-eq_of_lt, div-eq_of_lt, div-lt_iff_lt-mul, mul-add-div, mul-add-div_right}
use Rattle.relay_rows.proofs.Prelude.{mul-add-mod_self_left, mul-add-mod_self_right, div-add-mod, div-add-mod', get_or, Has, Decides, decides_and}
use Rattle.relay_rows.proofs.Prelude.{decided_true, ext, has_lt, decides_has, word_has, word_at, Shape, columns, Bit, bit, Turned, turned_word}

-- ---- where a bit stands

pos_right : (a b j : ℕ) → j < a * b → 0 < b
pos_right a zero j l = absurd (omega arith)
pos_right a (suc b) j l = omega arith

pos_left : (a b j : ℕ) → j < a * b → 0 < a
pos_left zero b j l = absurd (omega arith)
pos_left (suc a) b j l = omega arith

-- the word that has bit j of row i
abbrev pub place : Shape → ℕ → ℕ → ℕ
place s i j = s.words * i + j / s.bits

module _ (s : Shape) (i j : ℕ) (within : j < columns s) where
  words_pos : 0 < s.words
  words_pos = pos_left s.words s.bits j within

  bits_pos : 0 < s.bits
  bits_pos = pos_right s.words s.bits j within

  pub bit_lt : j % s.bits < s.bits
  bit_lt = mod-lt j bits_pos

  word_lt : j / s.bits < s.words
  word_lt = (div-lt_iff_lt-mul bits_pos).1 within

  pub place_row : place s i j / s.words ≡ i
  place_row =
      mul-add-div words_pos i (j / s.bits) ∙ ap (λ (q : ℕ). i + q) (div-eq_of_lt word_lt) ∙ omega arith

  pub place_word : place s i j % s.words ≡ j / s.bits
  place_word = mul-add-mod_self_left s.words i (j / s.bits) ∙ mod-eq_of_lt word_lt

  pub place_column : place s i j % s.words * s.bits + j % s.bits ≡ j
  place_column = ap (λ (q : ℕ). q * s.bits + j % s.bits) place_word ∙ div-add-mod' j s.bits

  pub place_lt : i < s.rows → place s i j < s.rows * s.words
  place_lt l = (div-lt_iff_lt-mul words_pos).0 (subst (λ (r : ℕ). r < s.rows) (sym place_row) l)

-- ---- the bits of one word

-- the column of bit k of word w
abbrev pub column : Shape → ℕ → ℕ → ℕ
column s w k = w % s.words * s.bits + k

module _ (s : Shape) (w k : ℕ) (pos : 0 < s.words) (l : k < s.bits) where
  bits_some : 0 < s.bits
  bits_some = omega arith

  column_word : column s w k / s.bits ≡ w % s.words
  column_word =
      mul-add-div_right bits_some (w % s.words) k ∙ ap (λ (q : ℕ). w % s.words + q) (div-eq_of_lt l) ∙ omega arith

  column_bit : column s w k % s.bits ≡ k
  column_bit = mul-add-mod_self_right (w % s.words) s.bits k ∙ mod-eq_of_lt l

  pub column_lt : column s w k < columns s
  column_lt = (div-lt_iff_lt-mul bits_some).0 (subst (λ (q : ℕ). q < s.words) (sym column_word) (mod-lt w pos))

  stands : place s (w / s.words) (column s w k) ≡ w
  stands = ap (λ (q : ℕ). s.words * (w / s.words) + q) column_word ∙ div-add-mod w s.words

  pub to_word : (xs : List ℕ) → Bit s xs (w / s.words) (column s w k) → Has (get_or xs w 0) k
  to_word xs h =
      subst (λ (p : ℕ). Has (get_or xs p 0) k) stands
      (subst (λ (b : ℕ). Has (get_or xs (place s (w / s.words) (column s w k)) 0) b) column_bit h)

  pub from_word : (xs : List ℕ) → Has (get_or xs w 0) k → Bit s xs (w / s.words) (column s w k)
  from_word xs h =
      subst (λ (b : ℕ). Has (get_or xs (place s (w / s.words) (column s w k)) 0) b) (sym column_bit)
      (subst (λ (p : ℕ). Has (get_or xs p 0) k) (sym stands) h)

-- ---- the computing twin has the bits of the definition

module _ (from to : Shape) (area : List ℕ) where
  pub decides_bit : (i j : ℕ) → Decides (Bit from area i j) (bit from area i j)
  unfolding bit
  decides_bit i j = decides_has (get_or area (place from i j) 0) (j % from.bits)

  module _ (Kept : ℕ → ℕ → Type 0) (kept : ℕ → ℕ → Bool) (decides-kept : (i j : ℕ) → Decides (Kept i j) (kept i j)) where
    -- the test of one bit
    abbrev test : ℕ → ℕ → Bool
    test i j = kept i j && bit from area j i

    decides_test : (i j : ℕ) → Decides (Kept i j × Bit from area j i) (test i j)
    decides_test i j = decides_and (decides-kept i j) (decides_bit j i)

    word_bit : (w k : ℕ) → k < to.bits
        → Has (turned_word from to kept area w) k ↔ (test (w / to.words) (column to w k) ≡ true)
    unfolding turned_word
    word_bit w k l = (
      λ h. (word_at to.bits (λ b. test (w / to.words) (column to w b)) k h).1,
      λ e. word_has to.bits (λ b. test (w / to.words) (column to w b)) k l e,
    )

    pub turned_is : (turned : List ℕ) → ((w : ℕ) → w < to.rows * to.words → get_or turned w 0 ≡ turned_word from to kept area w)
        → Turned from to Kept area turned
    turned_is turned words = record { bits_are = λ i j li lj. here i j li lj }
      where
        same : (i j : ℕ) → j < columns to → test (place to i j / to.words) (column to (place to i j) (j % to.bits)) ≡ test i j
        same i j lj = ap₂ test (place_row to i j lj) (place_column to i j lj)

        here : (i j : ℕ) → i < to.rows → j < columns to → Bit to turned i j ↔ (Kept i j × Bit from area j i)
        here i j li lj =
            let e = words (place to i j) (place_lt to i j lj li) in
            let b = word_bit (place to i j) (j % to.bits) (bit_lt to i j lj) in (
              λ h. (decides_test i j).yes (sym (same i j lj) ∙ b.0 (subst (λ (x : ℕ). Has x (j % to.bits)) e h)),
              λ h. subst (λ (x : ℕ). Has x (j % to.bits)) (sym e) (b.1 (same i j lj ∙ decided_true (decides_test i j) h)),
            )

-- ---- there and back

module _ (s t : Shape) {Kept Kept' : ℕ → ℕ → Type 0} {area turned back : List ℕ} (there : Turned s t Kept area turned)
    (again : Turned t s Kept' turned back) where
  -- a bit comes back where it was kept both times
  pub bit_back : (i j : ℕ) → i < s.rows → j < columns s → j < t.rows → i < columns t → Bit s back i j ↔ (Kept' i j × (Kept j i × Bit s area i j))
  bit_back i j li lj mj mi =
      let first = there.bits_are j i mj mi in
      let second = again.bits_are i j li lj in (
        λ h. let a = second.0 h in (a.0, first.0 a.1),
        λ h. second.1 (h.0, first.1 h.1),
      )

  module _ (rows_fit : s.rows ≤ columns t) (columns-fit : columns s ≤ t.rows) where
    -- a row that is kept both times comes back, and its words with it
    pub word_back : (w : ℕ) → w < s.rows * s.words → ((j : ℕ) → j < columns s → Kept' (w / s.words) j × Kept j (w / s.words))
        → get_or area w 0 < 2 ^ s.bits → get_or back w 0 < 2 ^ s.bits → get_or back w 0 ≡ get_or area w 0
    word_back w l kept fits fits' =
        ext (get_or back w 0) (get_or area w 0)
        (λ k h. let b = has_lt (get_or back w 0) s.bits fits' h in
        to_word s w k pos b area ((bits k b).0 (from_word s w k pos b back h)).1.1)
        (λ k h. let b = has_lt (get_or area w 0) s.bits fits h in
        let both = kept (column s w k) (column_lt s w k pos b) in
        to_word s w k pos b back ((bits k b).1 (both.0, (both.1, from_word s w k pos b area h))))
      where
        pos : 0 < s.words
        pos = pos_right s.rows s.words w l

        bits : (k : ℕ) → k < s.bits → Bit s back (w / s.words) (column s w k)
            ↔ (Kept' (w / s.words) (column s w k) × (Kept (column s w k) (w / s.words) × Bit s area (w / s.words) (column s w k)))
        bits k b =
            let lt = column_lt s w k (pos_right s.rows s.words w l) b in
            let r = (div-lt_iff_lt-mul (pos_right s.rows s.words w l)).1 l in
            bit_back (w / s.words) (column s w k) r lt (omega (arith, lt, columns-fit)) (omega (arith, r, rows_fit))
