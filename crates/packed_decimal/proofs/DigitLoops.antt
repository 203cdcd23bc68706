-- The two loops that take the digits of a word from the low end. What is known of the digits that are left is known of all: Testing, whether
-- they are decimal; Respelling, the number that they make in another base, with bounds so that nothing wraps.
use Rattle.packed_decimal.proofs.Prelude.{◌≡◌, refl, sym, ap, ◌∙◌, true, false, ℕ, suc, ◌+◌, ◌-◌, ◌*◌, ◌/◌, ◌%◌, ◌^◌, ◌≤◌, ◌<◌, arith, pow-suc}
use Rattle.packed_decimal.proofs.Prelude.{pow-zero, pow-le-pow_right, mul-add, mul_comm, mul_assoc, mul-le-mul_left, mul-le-mul_right, mod-lt, add-one}
use Rattle.packed_decimal.proofs.Prelude.{lt-ltb, le-ltb, digits, value_of, TEN, DIGIT_VALUES, is_decimal}
use Rattle.packed_decimal.proofs.Positional.{number_digits_suc}

-- what is left of n digits after i + 1 is one less than after i
one_fewer : (n i : ℕ) → i < n → n - i ≡ suc (n - (i + 1))
one_fewer n i l = omega arith

-- ---- whether all digits are decimal

pub record Testing (n word i rest : ℕ) : Type 0 where
  pub within : i ≤ n
  pub left : is_decimal n word ≡ is_decimal (n - i) rest

pub testing_start : (n word : ℕ) → Testing n word 0 word
testing_start n word = record { within = omega arith; left = let e : n ≡ n - 0 = omega arith in ap (λ (k : ℕ). is_decimal k word) e }

pub testing_bad : {n word i rest : ℕ} → Testing n word i rest → i < n → TEN ≤ rest % DIGIT_VALUES → false ≡ is_decimal n word
unfolding is_decimal
testing_bad {n} {word} {i} {rest} t l bad =
    sym (t.left ∙ rw (one_fewer n i l, is_decimal, le-ltb (rest % DIGIT_VALUES) TEN bad) refl)

pub testing_more : {n word i rest : ℕ} → Testing n word i rest → i < n → rest % DIGIT_VALUES < TEN
    → Testing n word (i + 1) (rest / DIGIT_VALUES)
unfolding is_decimal
testing_more {n} {word} {i} {rest} t l good = record {
  within = omega arith;
  left = t.left ∙ rw (one_fewer n i l, is_decimal, lt-ltb (rest % DIGIT_VALUES) TEN good) refl;
}

pub testing_all : {n word i rest : ℕ} → Testing n word i rest → n ≤ i → true ≡ is_decimal n word
unfolding is_decimal
testing_all {n} {word} {i} {rest} t l = let none : n - i ≡ 0 = omega arith in sym (t.left ∙ rw none refl)

-- ---- the digits in another base

-- of n digits of x in base `from`, i stand in the result in base `to`, and `place` is what the next one counts for
pub record Respelling (n from to x i rest place result : ℕ) : Type 0 where
  pub within : i ≤ n
  pub place_fits : place ≤ DIGIT_VALUES ^ i
  pub result_fits : result < DIGIT_VALUES ^ i
  pub total : value_of to (digits from n x) ≡ result + place * value_of to (digits from (n - i) rest)

pub respelling_start : (n from to x : ℕ) → Respelling n from to x 0 x 1 0
respelling_start n from to x = record {
  within = omega arith;
  place_fits = omega (arith, pow-zero DIGIT_VALUES);
  result_fits = omega (arith, pow-zero DIGIT_VALUES);
  total = let e : n - 0 ≡ n = omega arith in rw e (omega arith);
}

module _ {n from to x i rest place result : ℕ} (r : Respelling n from to x i rest place result) (l : i < n) (pos : 0 < from)
    (small : from ≤ DIGIT_VALUES) (small' : to ≤ DIGIT_VALUES) where
  sum_below : result + rest % from * place < DIGIT_VALUES ^ suc i
  sum_below =
      let digit : rest % from < DIGIT_VALUES = omega (arith, mod-lt rest pos) in
      let most : rest % from * place ≤ 15 * place = mul-le-mul_right place (omega arith) in
      rw (pow-suc DIGIT_VALUES i) (omega (arith, r.place_fits, r.result_fits))

  place_below : place * to ≤ DIGIT_VALUES ^ suc i
  place_below =
      let most : place * to ≤ place * DIGIT_VALUES = mul-le-mul_left place small' in
      rw (pow-suc DIGIT_VALUES i) (omega (arith, r.place_fits))

  within_all : DIGIT_VALUES ^ suc i ≤ DIGIT_VALUES ^ n
  within_all = pow-le-pow_right (omega arith) l

  pub sum_fits : result + rest % from * place < DIGIT_VALUES ^ n
  sum_fits = omega (arith, sum_below, within_all)

  pub next_fits : place * to ≤ DIGIT_VALUES ^ n
  next_fits = omega (arith, place_below, within_all)

  step : (N : ℕ) → result + place * (N * to + rest % from) ≡ result + rest % from * place + place * to * N
  step N =
      let one : place * (N * to + rest % from) ≡ place * (N * to) + place * (rest % from) = mul-add place (N * to) (rest % from) in
      let two : place * (N * to) ≡ place * to * N = ap (λ (k : ℕ). place * k) (mul_comm N to) ∙ sym (mul_assoc place to N) in
      let three : place * (rest % from) ≡ rest % from * place = mul_comm place (rest % from) in
      omega arith

  pub respelling_more : Respelling n from to x (i + 1) (rest / from) (place * to) (result + rest % from * place)
  respelling_more = record {
    within = omega arith;
    place_fits = rw add-one place_below;
    result_fits = rw add-one sum_below;
    total =
        r.total
        ∙ rw (one_fewer n i l, number_digits_suc from to (n - (i + 1)) rest) (step (value_of to (digits from (n - (i + 1)) (rest / from))));
  }

pub respelling_all : {n from to x i rest place result : ℕ} → Respelling n from to x i rest place result → n ≤ i
    → result ≡ value_of to (digits from n x)
unfolding value_of digits
respelling_all {n} {from} {to} {x} {i} {rest} {place} {result} r l =
    let none : n - i ≡ 0 = omega (arith, r.within) in
    sym (r.total ∙ rw none (omega arith))
