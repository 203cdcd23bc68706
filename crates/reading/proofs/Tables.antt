-- TABLE words: how many rows a table has, and which tables are bad.
use Rattle.reading.proofs.Prelude.{◌≡◌, refl, ap, ◌∙◌, Bool, true, false, true≢false, ℕ, ◌*◌, ◌%◌, ◌^◌, ◌≤◌, ◌<◌, arith, dec_lt, ones, ltb, leb}
use Rattle.reading.proofs.Prelude.{pow_mono, lt-ltb, le-ltb, ltb-true, ltb-false, leb-true, leb-false, Decides, ATOMS, Has, below, has_lt, MAX_INPUTS}
use Rattle.reading.proofs.Prelude.{bad_table, TableWords, NoTable, seven_inputs, no_such_row}
use Rattle.atoms.proofs.Digits.{shifted_one}
use Rattle.reading.proofs.HighBits.{absent_above_below, atom_from}

-- n inputs, as the code counts them
module _ (inputs truth n : ℕ) (counted : n ≡ ones inputs) where
  pub bad_many_inputs : MAX_INPUTS < n → true ≡ bad_table inputs truth
  unfolding bad_table
  bad_many_inputs h = rw (lt-ltb MAX_INPUTS (ones inputs) (omega arith), bad_table)

  module _ (few : n ≤ MAX_INPUTS) where
    pub rows_are : (1 * 2 ^ n) % 2 ^ 64 ≡ 2 ^ n
    rows_are = shifted_one n (omega arith)

    pub rows_few : (1 * 2 ^ n) % 2 ^ 64 ≤ ATOMS
    rows_few = let most : 2 ^ n ≤ 2 ^ MAX_INPUTS = pow_mono few in omega (arith, rows_are)

    -- a truth word above that of all rows
    pub bad_above_rows : (all : ℕ) → all ≡ below ((1 * 2 ^ n) % 2 ^ 64) → ltb all truth ≡ bad_table inputs truth
    unfolding bad_table
    bad_above_rows all e =
        absent_above_below (2 ^ n) all truth (e ∙ ap below rows_are)
        ∙ ap (λ (m : ℕ). leb (2 ^ 2 ^ m) truth) counted
        ∙ rw (le-ltb MAX_INPUTS (ones inputs) (omega arith), bad_table)

-- ---- what the test decides

module _ (t : TableWords) where
  pub decides_bad_table : Decides (NoTable t) (bad_table t.inputs t.truth)
  unfolding bad_table
  decides_bad_table = go (ltb MAX_INPUTS (ones t.inputs)) refl
    where
      row_there : 2 ^ 2 ^ ones t.inputs ≤ t.truth → NoTable t
      row_there h = let i = atom_from (2 ^ ones t.inputs) t.truth h in no_such_row i.0 i.1 i.2

      right : ones t.inputs ≤ MAX_INPUTS → t.truth < 2 ^ 2 ^ ones t.inputs → ¬ NoTable t
      right few rows (seven_inputs h) = omega arith
      right few rows (no_such_row j h k) = omega (arith, has_lt t.truth (2 ^ ones t.inputs) rows h)

      go : (b : Bool) → ltb MAX_INPUTS (ones t.inputs) ≡ b → Decides (NoTable t) (bad_table t.inputs t.truth)
      go true e =
          rw (e, bad_table) (record { yes = λ z. seven_inputs (ltb-true _ _ e); no = λ z. absurd (true≢false z) })
      go false e =
          rw (e, bad_table)
          (record { yes = λ z. row_there (leb-true _ _ z); no = λ z. right (ltb-false _ _ e) (leb-false _ _ z) })

  pub right_table : ¬ NoTable t → (ones t.inputs ≤ MAX_INPUTS) × ((j : ℕ) → Has t.truth j → j < 2 ^ ones t.inputs)
  right_table n = (few (dec_lt MAX_INPUTS (ones t.inputs)), λ j h. there j h (dec_lt j (2 ^ ones t.inputs)))
    where
      few : Dec (MAX_INPUTS < ones t.inputs) → ones t.inputs ≤ MAX_INPUTS
      few (yes l) = absurd (n (seven_inputs l))
      few (no l) = omega arith

      there : (j : ℕ) → Has t.truth j → Dec (j < 2 ^ ones t.inputs) → j < 2 ^ ones t.inputs
      there j h (yes l) = l
      there j h (no l) = absurd (n (no_such_row j h (omega arith)))

  pub no_wrong_table : ones t.inputs ≤ MAX_INPUTS → ((j : ℕ) → Has t.truth j → j < 2 ^ ones t.inputs) → ¬ NoTable t
  no_wrong_table few rows (seven_inputs h) = omega arith
  no_wrong_table few rows (no_such_row j h k) = omega (arith, rows j h)
