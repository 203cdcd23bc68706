-- The largest reading of a run: what one reading more changes, and the loop over a run of bytes (Seeking).
use Rattle.packed_decimal.proofs.Prelude.{◌≡◌, refl, sym, ap, ap₂, ◌∙◌, Bool, true, false, cond, or-true, List, ℕ, ◌+◌, ◌*◌, ◌/◌, ◌^◌, ◌≤◌, ◌<◌, arith}
use Rattle.packed_decimal.proofs.Prelude.{ℕ_discrete, add-one, ltb, leb, length, below_more, lt-ltb, le-ltb, lt-leb, le-leb, DIGITS, DIGIT_VALUES}
use Rattle.packed_decimal.proofs.Prelude.{NOT_MEASURED, unpacked, is_reading, says, READING_BYTES, readings, reading_at, bad_at, larger, largest_of}
use Rattle.packed_decimal.proofs.Prelude.{largest_in, MeasuredWord, MeasuredFound, BadReading, Placed, Option, Some, None, Ok, Err}
use Rattle.packed_decimal.proofs.Readings.{unmeasured_says, measured_says, measured_word}
use Rattle.packed_decimal.proofs.FirstBad.{unless_first, unless_none}
use Rattle.packed_decimal.proofs.Orders.{words_lt, words_le}

-- ---- one reading more

-- what is found with one reading more
abbrev at_place : ℕ → ℕ → Option Placed
at_place word place = Some (record { word = word; place = place })

larger_by : (best : Placed) (x word place : ℕ) {b : Bool} → ltb (unpacked DIGITS best.word) x ≡ b
    → larger (Some best) (Some x) word place ≡ cond b (at_place word place) (Some best)
larger_by best x word place e = ap (λ (t : Bool). cond t (at_place word place) (Some best)) e

pub larger_unmeasured : (found : Option Placed) (word place : ℕ) → word ≡ NOT_MEASURED → larger found (says word) word place ≡ found
larger_unmeasured found word place e = rw (unmeasured_says word e) refl

pub larger_first : (word place : ℕ) → ¬ (word ≡ NOT_MEASURED) → larger None (says word) word place ≡ Some (record { word = word; place = place })
larger_first word place n = rw (measured_says word n) refl

module _ (best : Placed) (word place : ℕ) (mb : MeasuredWord best.word) (mw : MeasuredWord word) (n : ¬ (word ≡ NOT_MEASURED)) where
  pub larger_more : best.word < word → larger (Some best) (says word) word place ≡ Some (record { word = word; place = place })
  larger_more l =
      rw (measured_says word n) (larger_by best (unpacked DIGITS word) word place (lt-ltb _ _ (words_lt mb mw l)))

  pub larger_same : word ≤ best.word → larger (Some best) (says word) word place ≡ Some best
  larger_same l =
      rw (measured_says word n) (larger_by best (unpacked DIGITS word) word place (le-ltb _ _ (words_le mw mb l)))

-- what is found stays measured
pub larger_measured : (found : Option Placed) (word place : ℕ) → MeasuredFound found → word < DIGIT_VALUES ^ DIGITS → is_reading word ≡ true
    → MeasuredFound (larger found (says word) word place)
larger_measured found word place m l r = go (ℕ_discrete word NOT_MEASURED)
  where
    either : (best : Placed) (b : Bool) → MeasuredWord best.word → MeasuredWord word → MeasuredFound (cond b (at_place word place) (Some best))
    either best true mb mw = mw
    either best false mb mw = mb

    measured : (f : Option Placed) → MeasuredFound f → MeasuredWord word → (x : ℕ) → MeasuredFound (larger f (Some x) word place)
    measured None m mw x = mw
    measured (Some best) m mw x = either best (ltb (unpacked DIGITS best.word) x) m mw

    go : Dec (word ≡ NOT_MEASURED) → MeasuredFound (larger found (says word) word place)
    go (yes e) = rw (larger_unmeasured found word place e) m
    go (no n) = rw (measured_says word n) (measured found m (measured_word word n l r) (unpacked DIGITS word))

-- ---- the loop over a run of bytes

whole_good : (bytes : List ℕ) (i : ℕ) → READING_BYTES * i + 1 < length bytes → is_reading (reading_at bytes i) ≡ true → bad_at bytes i ≡ false
unfolding bad_at
whole_good bytes i l e = rw (lt-leb (length bytes) (READING_BYTES * i + 1) l, e) refl

whole_bad : (bytes : List ℕ) (i : ℕ) → is_reading (reading_at bytes i) ≡ false → bad_at bytes i ≡ true
unfolding bad_at
whole_bad bytes i e = rw e (or-true (leb (length bytes) (READING_BYTES * i + 1)))

lone_bad : (bytes : List ℕ) (i : ℕ) → length bytes ≤ READING_BYTES * i + 1 → bad_at bytes i ≡ true
unfolding bad_at
lone_bad bytes i l = rw (le-leb (length bytes) (READING_BYTES * i + 1) l) refl

-- the first i readings are whole and good, and this was found among them
pub record Seeking (bytes : List ℕ) (i : ℕ) (found : Option Placed) : Type 0 where
  pub within : i ≤ length bytes / READING_BYTES
  pub good : (j : ℕ) → j < i → bad_at bytes j ≡ false
  pub found_is : found ≡ largest_of (reading_at bytes) i
  pub measured : MeasuredFound found

pub seeking_start : (bytes : List ℕ) → Seeking bytes 0 None
unfolding largest_of
seeking_start bytes = record { within = omega arith; good = λ j l. absurd (omega arith); found_is = refl; measured = tt }

module _ {bytes : List ℕ} {i word : ℕ} {found : Option Placed} (s : Seeking bytes i found) (e : word ≡ reading_at bytes i) where
  pub seeking_bad : i < length bytes / READING_BYTES → is_reading word ≡ false → largest_in bytes ≡ Err (BadReading i)
  unfolding largest_in
  seeking_bad l r =
      unless_first (readings bytes) (bad_at bytes) _ i (omega arith) (whole_bad bytes i (ap is_reading (sym e) ∙ r)) s.good

  pub seeking_more : {next : Option Placed} → i < length bytes / READING_BYTES → word < DIGIT_VALUES ^ DIGITS → is_reading word ≡ true
      → next ≡ larger found (says word) word i → Seeking bytes (i + 1) next
  unfolding largest_of
  seeking_more l fits r n = record {
    within = omega arith;
    good = below_more (λ (j : ℕ). bad_at bytes j ≡ false) i s.good (whole_good bytes i (omega arith) (ap is_reading (sym e) ∙ r));
    found_is =
        n
        ∙ ap₂ (λ (f : Option Placed) (w : ℕ). larger f (says w) w i) s.found_is e
        ∙ ap (largest_of (reading_at bytes)) (sym (add-one i));
    measured = rw n (larger_measured found word i s.measured fits r);
  }

-- a lone last byte
pub seeking_lone : {bytes : List ℕ} {i : ℕ} {found : Option Placed} → Seeking bytes i found → length bytes / READING_BYTES ≤ i
    → READING_BYTES * (length bytes / READING_BYTES) < length bytes → largest_in bytes ≡ Err (BadReading (length bytes / READING_BYTES))
unfolding largest_in
seeking_lone {bytes} {i} {found} s l odd =
    let last : ℕ = length bytes / READING_BYTES in
    unless_first (readings bytes) (bad_at bytes) _ last (omega arith) (lone_bad bytes last (omega arith)) (λ j k. s.good j (omega arith))

pub seeking_all : {bytes : List ℕ} {i : ℕ} {found : Option Placed} → Seeking bytes i found → length bytes / READING_BYTES ≤ i
    → length bytes ≤ READING_BYTES * (length bytes / READING_BYTES) → largest_in bytes ≡ Ok found
unfolding largest_in
seeking_all {bytes} {i} {found} s l even =
    let all : readings bytes ≡ i = omega (arith, s.within) in
    unless_none (readings bytes) (bad_at bytes) _ (λ j k. s.good j (omega arith))
    ∙ ap Ok (ap (largest_of (reading_at bytes)) all ∙ sym s.found_is)
