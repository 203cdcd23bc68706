-- Conversion is inverse both ways. For any number of digits it is one argument: the digits are the same and only their base changes
-- (`read_back`, by induction over the number of digits). What the functions answer cites it at four.
use Rattle.packed_decimal.proofs.Prelude.{◌≡◌, refl, sym, ap, ◌∙◌, subst, true, false, not, List, [], ◌∷◌, ◌⊎◌, inl, inr, ℕ, ◌^◌, ◌≤◌, ◌<◌, arith}
use Rattle.packed_decimal.proofs.Prelude.{dec_lt, ℕ_discrete, lt-ltb, le-ltb, decided_true, test_cases, digits, Below, TEN, DIGITS, DIGIT_VALUES}
use Rattle.packed_decimal.proofs.Prelude.{MODULUS, NOT_MEASURED, unpacked, packed, Decimal, is_reading, says, bad_of, number_of, reading_of, Option}
use Rattle.packed_decimal.proofs.Prelude.{Some, None, Ok, Err, BadReading, LargeNumber}
use Rattle.packed_decimal.proofs.Positional.{digits_below, digits_kept, read_back, number_lt, number_order}
use Rattle.packed_decimal.proofs.Readings.{decides_decimal, unmeasured_says, decimal_measured, measured_is, measured_says, measured_decimal}
use Rattle.packed_decimal.proofs.FirstBad.{unless_first, unless_none}

-- ---- any number of digits

-- decimal digits fit the bits of a packed one
fit_bits : (n x : ℕ) → Below DIGIT_VALUES (digits TEN n x)
fit_bits n x = digits_below TEN DIGIT_VALUES n x (omega arith) (omega arith)

-- a whole number, packed and unpacked, is the number again
pub unpacked_packed : (n x : ℕ) → x < TEN ^ n → unpacked n (packed n x) ≡ x
unpacked_packed n x h = read_back TEN DIGIT_VALUES n x (omega arith) h (fit_bits n x)

-- packed digits, unpacked and packed, are the same again
pub packed_unpacked : (n word : ℕ) → word < DIGIT_VALUES ^ n → Decimal n word → packed n (unpacked n word) ≡ word
packed_unpacked n word h d = read_back DIGIT_VALUES TEN n word (omega arith) h d

-- what is packed keeps the digit rule and fits its bits
pub packed_decimal : (n x : ℕ) → Decimal n (packed n x)
packed_decimal n x =
    subst (λ (ds : List ℕ). Below TEN ds) (sym (digits_kept TEN DIGIT_VALUES n x (fit_bits n x)))
    (digits_below TEN TEN n x (omega arith) (omega arith))

pub packed_fits : (n x : ℕ) → packed n x < DIGIT_VALUES ^ n
packed_fits n x = number_lt TEN DIGIT_VALUES n x (fit_bits n x)

-- n decimal digits say a number below ten to the n
pub unpacked_fits : (n word : ℕ) → Decimal n word → unpacked n word < TEN ^ n
unpacked_fits n word d = number_lt DIGIT_VALUES TEN n word d

-- packed digits stand to each other as the numbers do
pub unpacked_order : (n v w : ℕ) → v < DIGIT_VALUES ^ n → w < DIGIT_VALUES ^ n → Decimal n v → Decimal n w → v < w
    → unpacked n v < unpacked n w
unpacked_order n v w hv hw dv dw l = number_order DIGIT_VALUES TEN n v w (omega arith) hv hw dv dw l

-- ---- the answers, at four

pub number_bad : (word : ℕ) → is_reading word ≡ false → number_of word ≡ Err (BadReading 0)
unfolding number_of
number_bad word e =
    unless_first 1 (bad_of (word ∷ [])) (says word) 0 (omega arith) (ap not e) (λ j l. absurd (omega arith))

pub number_says : (word : ℕ) → is_reading word ≡ true → number_of word ≡ Ok (says word)
unfolding number_of
number_says word e = unless_none 1 (bad_of (word ∷ [])) (says word) only
  where
    only : (j : ℕ) → j < 1 → bad_of (word ∷ []) j ≡ false
    only j l = let z : j ≡ 0 = omega arith in rw z (ap not e)

pub reading_large : (x : ℕ) → MODULUS ≤ x → reading_of (Some x) ≡ Err LargeNumber
unfolding reading_of
reading_large x l = rw (le-ltb x MODULUS l, reading_of) refl

pub reading_word : (x : ℕ) → x < MODULUS → reading_of (Some x) ≡ Ok (packed DIGITS x)
unfolding reading_of
reading_word x l = rw (lt-ltb x MODULUS l, reading_of) refl

pub reading_unmeasured : reading_of None ≡ Ok NOT_MEASURED
unfolding reading_of
reading_unmeasured = refl

-- ---- inverse both ways

-- a whole number to a reading and back: "on all 10,000 values"
pub number_of_reading : (x : ℕ) → x < MODULUS
    → (reading_of (Some x) ≡ Ok (packed DIGITS x)) × (number_of (packed DIGITS x) ≡ Ok (Some x))
number_of_reading x l =
    let keeps : Decimal DIGITS (packed DIGITS x) = packed_decimal DIGITS x in
    let other : ¬ (packed DIGITS x ≡ NOT_MEASURED) = decimal_measured (packed DIGITS x) keeps in (
      reading_word x l,
      number_says (packed DIGITS x) (measured_is (packed DIGITS x) other ∙ decided_true (decides_decimal DIGITS (packed DIGITS x)) keeps)
          ∙ ap Ok (measured_says (packed DIGITS x) other ∙ ap Some (unpacked_packed DIGITS x l)),
    )

-- a reading to what it says and back, "not measured stays so"
pub reading_of_number : (word : ℕ) → word < DIGIT_VALUES ^ DIGITS → is_reading word ≡ true
    → (number_of word ≡ Ok (says word)) × (reading_of (says word) ≡ Ok word)
reading_of_number word h e = (number_says word e, back (ℕ_discrete word NOT_MEASURED))
  where
    back : Dec (word ≡ NOT_MEASURED) → reading_of (says word) ≡ Ok word
    back (yes u) = ap reading_of (unmeasured_says word u) ∙ reading_unmeasured ∙ ap Ok (sym u)
    back (no u) =
        let keeps : Decimal DIGITS word = measured_decimal word u e in
        ap reading_of (measured_says word u)
        ∙ reading_word (unpacked DIGITS word) (unpacked_fits DIGITS word keeps)
        ∙ ap Ok (packed_unpacked DIGITS word h keeps)

-- ---- bounds

-- what a word says is not measured or a number up to 9999
pub said_is : (word : ℕ) (said : Option ℕ) → number_of word ≡ Ok said → (said ≡ None) ⊎ ((x : ℕ) × (x < MODULUS) × (said ≡ Some x))
said_is word said e = go (test_cases (is_reading word)) (ℕ_discrete word NOT_MEASURED)
  where
    go : (is_reading word ≡ true) ⊎ (is_reading word ≡ false) → Dec (word ≡ NOT_MEASURED)
        → (said ≡ None) ⊎ ((x : ℕ) × (x < MODULUS) × (said ≡ Some x))
    go (inl r) (yes u) =
        let answered = number_says word r in
        let unmeasured = unmeasured_says word u in
        inl (cc)
    go (inl r) (no n) =
        let answered = number_says word r in
        let measured = measured_says word n in
        inr (unpacked DIGITS word, unpacked_fits DIGITS word (measured_decimal word n r), cc)
    go (inr r) d =
        let refused = number_bad word r in
        let z : ◌≡◌ {A = ℕ} 0 1 = cc in
        absurd (omega arith)

-- the word of a reading fits 16 bits
pub word_fits : (asked : Option ℕ) (word : ℕ) → reading_of asked ≡ Ok word → word < DIGIT_VALUES ^ DIGITS
word_fits None word e =
    let given = reading_unmeasured in
    let same : word ≡ NOT_MEASURED = cc in
    omega arith
word_fits (Some x) word e = go (dec_lt x MODULUS)
  where
    go : Dec (x < MODULUS) → word < DIGIT_VALUES ^ DIGITS
    go (yes l) =
        let given = reading_word x l in
        let same : word ≡ packed DIGITS x = cc in
        omega (arith, packed_fits DIGITS x)
    go (no l) =
        let refused = reading_large x (omega arith) in
        let z : ◌≡◌ {A = ℕ} 0 1 = cc in
        absurd (omega arith)
