-- A column of bits is a word of the sheet by relay or of the list, and a block that is read and turned has columns for words.
use Rattle.relay_rows.proofs.Prelude.{◌≡◌, refl, sym, ap, ap₂, ◌∙◌, subst, Bool, true, false, ◌&&◌, List, ℕ, ◌+◌, ◌*◌, ◌/◌, ◌%◌, ◌≤◌, ◌<◌, arith}
use Rattle.relay_rows.proofs.Prelude.{dec_lt, ltb, get_or, lt-ltb, le-ltb, ATOMS, EVERY_ATOM, Has, has, below, word_below, not_both, decided_true, ext}
use Rattle.relay_rows.proofs.Prelude.{empty, has_lt, has_none, has_cut, cut_left, cut_right, decides_has, has_below, below_lt, word_has, word_at, bit}
use Rattle.relay_rows.proofs.Prelude.{turned_word, AREA_WORDS, ROW_WORDS, position_shape, row_shape, row_word, position_word, Crossed, column, BlockRead}
use Rattle.relay_rows.proofs.Prelude.{kept_from}

-- ---- words of bits

-- two words whose tests agree up to n, where the other has nothing behind n
pub word_cut : (n m : ℕ) (p q : ℕ → Bool) → n ≤ m → ((k : ℕ) → k < n → p k ≡ q k) → ((k : ℕ) → n ≤ k → k < m → q k ≡ false)
    → word_below n p ≡ word_below m q
word_cut n m p q le same none =
    ext (word_below n p) (word_below m q)
    (λ k h. let a = word_at n p k h in word_has m q k (omega (arith, a.0)) (sym (same k a.0) ∙ a.1))
    (λ k h. let a = word_at m q k h in go k a.0 a.1 (dec_lt k n))
  where
    go : (k : ℕ) → k < m → q k ≡ true → Dec (k < n) → Has (word_below n p) k
    go k l e (yes b) = word_has n p k b (same k b ∙ e)
    go k l e (no b) = absurd (not_both e (none k (omega arith) l))

and_kept : (t b : Bool) → t ≡ true → b ≡ (t && b)
and_kept t b e = ap (λ (x : Bool). x && b) (sym e)

and_lost : (t b : Bool) → t ≡ false → t && b ≡ false
and_lost t b e = ap (λ (x : Bool). x && b) e

-- a word of the rows: of the 64 positions from there on, those below the count
row_word_is : (list : List ℕ) (count at : ℕ) → at < AREA_WORDS
    → word_below (kept_from count (at % ROW_WORDS * ATOMS)) (column list (at % ROW_WORDS * ATOMS) 1 (at / ROW_WORDS)) ≡ row_word count list at
unfolding turned_word bit column
row_word_is list count at l =
    word_cut (kept_from count from) ATOMS (column list from 1 (at / ROW_WORDS))
    (λ k. ltb (from + k) count && bit position_shape list (from + k) (at / ROW_WORDS)) (omega arith)
    (λ k b. same k ∙ and_kept _ _ (lt-ltb (from + k) count (omega arith)))
    (λ k b m. and_lost _ _ (le-ltb (from + k) count (omega arith)))
  where
    from : ℕ
    from = at % ROW_WORDS * ATOMS

    same : (k : ℕ) → column list (at % ROW_WORDS * ATOMS) 1 (at / ROW_WORDS) k ≡ bit position_shape list (at % ROW_WORDS * ATOMS + k) (at / ROW_WORDS)
    same k =
        let e : at % 4 * 64 + 1 * k ≡ 1 * (at % 4 * 64 + k) + at / 4 / 64 = omega arith in
        let d : at / 4 ≡ at / 4 % 64 = omega arith in
        ap₂ (λ (x b : ℕ). has (get_or list x 0) b) e d

pub row_word_lem : (list : List ℕ) (count at : ℕ) {n word : ℕ} → at < AREA_WORDS
    → word ≡ word_below n (column list (at % ROW_WORDS * ATOMS) 1 (at / ROW_WORDS)) → n ≡ kept_from count (at % ROW_WORDS * ATOMS)
    → word ≡ row_word count list at
row_word_lem list count at l e d =
    e ∙ ap (λ (m : ℕ). word_below m (column list (at % ROW_WORDS * ATOMS) 1 (at / ROW_WORDS))) d ∙ row_word_is list count at l

module _ (rows : List ℕ) (count at : ℕ) where
  -- the test of a bit of the list
  abbrev listed : ℕ → Bool
  listed k = ltb (at / 1) count && bit row_shape rows (at % 1 * ATOMS + k) (at / 1)

  -- a word of the list below the count
  pub position_word_lem : at < count → word_below ATOMS (column rows (at / ATOMS) ROW_WORDS (at % ATOMS)) ≡ position_word count rows at
  unfolding turned_word bit column
  position_word_lem l =
      word_cut ATOMS ATOMS (column rows (at / ATOMS) ROW_WORDS (at % ATOMS)) listed (omega arith)
      (λ k b. same k ∙ and_kept _ _ (lt-ltb (at / 1) count (omega arith))) (λ k b m. absurd (omega arith))
    where
      same : (k : ℕ) → column rows (at / ATOMS) ROW_WORDS (at % ATOMS) k ≡ bit row_shape rows (at % 1 * ATOMS + k) (at / 1)
      same k =
          let e : at / 64 + 4 * k ≡ 4 * (at % 1 * 64 + k) + at / 1 / 64 = omega arith in
          let d : at % 64 ≡ at / 1 % 64 = omega arith in
          ap₂ (λ (x b : ℕ). has (get_or rows x 0) b) e d

  -- a word of the list from the count on
  pub position_rest : count ≤ at → 0 ≡ position_word count rows at
  unfolding turned_word word_below
  position_rest l =
      word_cut 0 ATOMS listed listed (omega arith) (λ k b. refl) (λ k b m. and_lost _ _ (le-ltb (at / 1) count (omega arith)))

-- ---- a block that is read and turned

module _ {area block turned : List ℕ} {at stride mask n : ℕ} (few : n ≤ ATOMS) (read : BlockRead area at stride mask n block)
    (cross : Crossed block turned) (i : ℕ) (li : i < ATOMS) where
  -- word i of the turned block is the column of bit i, where the mask has it
  pub crossed_column : Has mask i → get_or turned i 0 ≡ word_below n (column area at stride i)
  unfolding column
  crossed_column m =
      ext (get_or turned i 0) (word_below n (column area at stride i))
      (λ k h. let b = (cross.bits i k li (has_lt (get_or turned i 0) 64 (cross.fits i li) h)).0 h in to k b (dec_lt k n))
      (λ k h.
      let a = word_at n (column area at stride i) k h in
      (cross.bits i k li (omega (arith, a.0))).1
      (subst (λ (x : ℕ). Has x i) (sym (read.front k a.0)) (has_cut (get_or area (at + stride * k) 0) mask ((decides_has _ i).yes a.1) m)))
    where
      to : (k : ℕ) → Has (get_or block k 0) i → Dec (k < n) → Has (word_below n (column area at stride i)) k
      to k b (yes l) =
          word_has n (column area at stride i) k l
          (decided_true (decides_has (get_or area (at + stride * k) 0) i)
          (cut_left (get_or area (at + stride * k) 0) mask (subst (λ (x : ℕ). Has x i) (read.front k l) b)))
      to k b (no l) = absurd (has_none (subst (λ (x : ℕ). Has x i) (read.behind k (omega arith)) b))

  -- and 0 where it does not
  pub crossed_none : ¬ Has mask i → get_or turned i 0 ≡ 0
  crossed_none m =
      empty (get_or turned i 0) (λ k h. let b = (cross.bits i k li (has_lt (get_or turned i 0) 64 (cross.fits i li) h)).0 h in no_bit k b (dec_lt k n))
    where
      no_bit : (k : ℕ) → Has (get_or block k 0) i → Dec (k < n) → ⊥
      no_bit k b (yes l) = m (cut_right (get_or area (at + stride * k) 0) mask (subst (λ (x : ℕ). Has x i) (read.front k l) b))
      no_bit k b (no l) = has_none (subst (λ (x : ℕ). Has x i) (read.behind k (omega arith)) b)

-- word q of each row, from the block of the positions from 64 * q on
pub row_part : (list : List ℕ) (count q : ℕ) {n : ℕ} {block turned : List ℕ} → q < ROW_WORDS → n ≡ kept_from count (q * ATOMS)
    → BlockRead list (q * ATOMS) 1 EVERY_ATOM n block → Crossed block turned → (i : ℕ) → i < ATOMS
    → get_or turned i 0 ≡ row_word count list (q + ROW_WORDS * i)
unfolding below
row_part list count q {n} l en read cross i li =
    let e : q * 64 ≡ (q + 4 * i) % 4 * 64 = omega arith in
    let d : i ≡ (q + 4 * i) / 4 = omega arith in
    row_word_lem list count (q + 4 * i) (omega arith)
    (crossed_column (omega arith) read cross i li (has_below ATOMS i li) ∙ ap₂ (λ (a b : ℕ). word_below n (column list a 1 b)) e d)
    (en ∙ ap (kept_from count) e)

-- the positions from 64 * q on, from the block of word q of each row
pub position_part : (rows : List ℕ) (count q : ℕ) {n mask : ℕ} {block turned : List ℕ} → n ≡ kept_from count (q * ATOMS) → mask ≡ below n
    → BlockRead rows q ROW_WORDS mask ATOMS block → Crossed block turned → (j : ℕ) → j < ATOMS
    → get_or turned j 0 ≡ position_word count rows (q * ATOMS + j)
position_part rows count q {n} {mask} {block} {turned} en em read cross j lj = go (dec_lt (q * ATOMS + j) count)
  where
    e : q ≡ (q * ATOMS + j) / ATOMS
    e = omega arith

    d : j ≡ (q * ATOMS + j) % ATOMS
    d = omega arith

    go : Dec (q * ATOMS + j < count) → get_or turned j 0 ≡ position_word count rows (q * ATOMS + j)
    go (yes l) =
        crossed_column (omega arith) read cross j lj (subst (λ (w : ℕ). Has w j) (sym em) (has_below n j (omega arith)))
        ∙ ap₂ (λ (a b : ℕ). word_below ATOMS (column rows a ROW_WORDS b)) e d ∙ position_word_lem rows count (q * ATOMS + j) l
    go (no l) =
        crossed_none (omega arith) read cross j lj (λ h. omega (arith, below_lt n (subst (λ (w : ℕ). Has w j) em h)))
        ∙ position_rest rows count (q * ATOMS + j) (omega arith)
