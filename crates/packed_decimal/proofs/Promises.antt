-- The definitions of the answers say what document 02 says: each promise of specs/Promised.antt holds of its definition, and of a result that
-- equals it.
use Rattle.packed_decimal.proofs.Prelude.{◌≡◌, sym, ap, ap₂, ◌∙◌, true, false, List, ◌⊎◌, inl, inr, ℕ, ◌+◌, ◌*◌, ◌/◌, ◌%◌, ◌≤◌, ◌<◌, arith}
use Rattle.packed_decimal.proofs.Prelude.{decided_true, decided_false, DIGITS, MODULUS, NOT_MEASURED, packed, IsReading, is_reading, says}
use Rattle.packed_decimal.proofs.Prelude.{number_of, reading_of, sum_of, added_of, reading_order, compared_of, length, READING_BYTES, readings, reading_at}
use Rattle.packed_decimal.proofs.Prelude.{bad_at, largest_of, largest_in, Option, Some, None, Result, Ok, Err, Refusal, BadReading}
use Rattle.packed_decimal.proofs.Prelude.{Placed, Sum, Ordering}
use Rattle.packed_decimal.specs.ReadingPromises.{SaysNumber, Numbered, Repacked, IsSum, ReadingsAdded, HeldAgainst, LargestSought}
use Rattle.packed_decimal.proofs.LargestReading.{Seeking, seeking_bad, seeking_lone, seeking_all}
use Rattle.packed_decimal.proofs.FirstBad.{unless_first, unless_none, pair_first, pair_second}
use Rattle.packed_decimal.proofs.Sums.{unmeasured_sum, sum_unmeasured_left, sum_unmeasured_right, added_is}
use Rattle.packed_decimal.proofs.Orders.{order_unmeasured_left, order_unmeasured_right, order_below, order_above, order_equal}
use Rattle.packed_decimal.proofs.Orders.{compared_is}
use Rattle.packed_decimal.proofs.LargestMeaning.{largest_right, decides_bad}
use Rattle.packed_decimal.proofs.Conversion.{number_bad, number_says, reading_large, reading_word, reading_unmeasured, unpacked_packed, packed_decimal}
use Rattle.packed_decimal.proofs.Conversion.{packed_fits, unpacked_fits}
use Rattle.packed_decimal.proofs.Readings.{decides_reading, unmeasured_is, unmeasured_says, measured_says, decimal_measured, decimal_reading}

-- ---- a word that says a number

said : {word x : ℕ} → SaysNumber word x → says word ≡ Some x
said {word} s = measured_says word (decimal_measured word s.rule) ∙ ap Some s.says_is

said_lt : {word x : ℕ} → SaysNumber word x → x < MODULUS
said_lt {word} s = rw (← s.says_is) (unpacked_fits DIGITS word s.rule)

packed_says : (x : ℕ) → x < MODULUS → SaysNumber (packed DIGITS x) x
packed_says x l = record { fits = packed_fits DIGITS x; rule = packed_decimal DIGITS x; says_is = unpacked_packed DIGITS x l }

said_good : {word x : ℕ} → SaysNumber word x → is_reading word ≡ true
said_good {word} s = decimal_reading word s.rule

good : {word : ℕ} → IsReading word → is_reading word ≡ true
good {word} h = decided_true (decides_reading word) h

bad : {word : ℕ} → ¬ IsReading word → is_reading word ≡ false
bad {word} h = decided_false (decides_reading word) h

-- ---- one reading

pub numbered : (word : ℕ) {r : Result (Option ℕ) Refusal} → r ≡ number_of word → Numbered word r
numbered word e = record {
  is = e;
  bad = λ h. e ∙ number_bad word (bad h);
  unmeasured = λ u. e ∙ number_says word (unmeasured_is word u) ∙ ap Ok (unmeasured_says word u);
  measured = λ x s. e ∙ number_says word (said_good s) ∙ ap Ok (said s);
}

pub repacked : (number : Option ℕ) {r : Result ℕ Refusal} → r ≡ reading_of number → Repacked number r
repacked number e = record {
  is = e;
  unmeasured = λ u. e ∙ ap reading_of u ∙ reading_unmeasured;
  large = λ x m l. e ∙ ap reading_of m ∙ reading_large x l;
  measured = λ x m l. (packed DIGITS x, e ∙ ap reading_of m ∙ reading_word x l, packed_says x l);
}

-- ---- two readings

sum_adds_up : (x y : ℕ) → x < MODULUS → y < MODULUS → IsSum x y (sum_of (Some x) (Some y))
sum_adds_up x y hx hy = record { rest = (x + y) % MODULUS; says_rest = packed_says ((x + y) % MODULUS) (omega arith); total = omega arith }

module _ (a b : ℕ) {r : Result Sum Refusal} (e : r ≡ added_of a b) where
  added : is_reading a ≡ true → is_reading b ≡ true → r ≡ Ok (sum_of (says a) (says b))
  added ga gb = e ∙ added_is a b ga gb

  added_unmeasured : (a ≡ NOT_MEASURED) ⊎ (b ≡ NOT_MEASURED) → sum_of (says a) (says b) ≡ unmeasured_sum
  added_unmeasured (inl u) = sum_unmeasured_left (says a) (says b) (unmeasured_says a u)
  added_unmeasured (inr u) = sum_unmeasured_right (says a) (says b) (unmeasured_says b u)

  pub summed : ReadingsAdded a b r
  unfolding added_of
  summed = record {
    is = e;
    refuses = record {
      first = λ h. e ∙ pair_first a b (sum_of (says a) (says b)) (bad h);
      second = λ g h. e ∙ pair_second a b (sum_of (says a) (says b)) (good g) (bad h);
    };
    unmeasured = λ g h u. added (good g) (good h) ∙ ap Ok (added_unmeasured u);
    measured = λ x y s t. (
      sum_of (Some x) (Some y),
      added (said_good s) (said_good t) ∙ ap Ok (ap₂ sum_of (said s) (said t)),
      sum_adds_up x y (said_lt s) (said_lt t),
    );
  }

module _ (word limit : ℕ) {r : Result (Option Ordering) Refusal} (e : r ≡ compared_of word limit) where
  compared : is_reading word ≡ true → is_reading limit ≡ true → r ≡ Ok (reading_order (says word) (says limit))
  compared gw gl = e ∙ compared_is word limit gw gl

  compared_unmeasured : (word ≡ NOT_MEASURED) ⊎ (limit ≡ NOT_MEASURED) → reading_order (says word) (says limit) ≡ None
  compared_unmeasured (inl u) = order_unmeasured_left (says word) (says limit) (unmeasured_says word u)
  compared_unmeasured (inr u) = order_unmeasured_right (says word) (says limit) (unmeasured_says limit u)

  numbers : {x y : ℕ} → SaysNumber word x → SaysNumber limit y → r ≡ Ok (reading_order (Some x) (Some y))
  numbers s t = compared (said_good s) (said_good t) ∙ ap Ok (ap₂ reading_order (said s) (said t))

  pub held : HeldAgainst word limit r
  unfolding compared_of
  held = record {
    is = e;
    refuses = record {
      first = λ h. e ∙ pair_first word limit (reading_order (says word) (says limit)) (bad h);
      second = λ g h. e ∙ pair_second word limit (reading_order (says word) (says limit)) (good g) (bad h);
    };
    unmeasured = λ g h u. compared (good g) (good h) ∙ ap Ok (compared_unmeasured u);
    below = λ x y s t l. numbers s t ∙ ap Ok (order_below x y l);
    equal = λ x y s t q. numbers s t ∙ ap Ok (order_equal x y (omega arith) (omega arith));
    above = λ x y s t l. numbers s t ∙ ap Ok (order_above x y l);
  }

-- ---- a run

pub sought : (bytes : List ℕ) {r : Result (Option Placed) Refusal} → r ≡ largest_in bytes → LargestSought bytes r
unfolding largest_in
sought bytes e = record {
  is = e;
  refused = λ i l least.
      e ∙ unless_first (readings bytes) (bad_at bytes) (largest_of (reading_at bytes) (readings bytes)) i l
      (decided_true (decides_bad bytes i) least.here) (λ j k. decided_false (decides_bad bytes j) (least.least j k));
  found = λ none. (
    largest_of (reading_at bytes) (readings bytes),
    e ∙ unless_none (readings bytes) (bad_at bytes) (largest_of (reading_at bytes) (readings bytes))
        (λ j k. decided_false (decides_bad bytes j) (none j k)),
    largest_right (reading_at bytes) (readings bytes),
  );
}

pub sought_bad : {bytes : List ℕ} {i word : ℕ} {found : Option Placed} → Seeking bytes i found → word ≡ reading_at bytes i → i < length bytes / READING_BYTES
    → is_reading word ≡ false → LargestSought bytes (Err (BadReading i))
sought_bad {bytes} s e l r = sought bytes (sym (seeking_bad s e l r))

pub sought_lone : {bytes : List ℕ} {i : ℕ} {found : Option Placed} → Seeking bytes i found → length bytes / READING_BYTES ≤ i
    → READING_BYTES * (length bytes / READING_BYTES) < length bytes → LargestSought bytes (Err (BadReading (length bytes / READING_BYTES)))
sought_lone {bytes} s l odd = sought bytes (sym (seeking_lone s l odd))

pub sought_all : {bytes : List ℕ} {i : ℕ} {found : Option Placed} → Seeking bytes i found → length bytes / READING_BYTES ≤ i
    → length bytes ≤ READING_BYTES * (length bytes / READING_BYTES) → LargestSought bytes (Ok found)
sought_all {bytes} s l even = sought bytes (sym (seeking_all s l even))
