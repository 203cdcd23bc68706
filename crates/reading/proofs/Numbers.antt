-- Numbers and their bytes, lowest first.
use Rattle.std.specs.Int.{w64, from_le_bytes}
use Rattle.reading.proofs.Prelude.{take_all, ◌≡◌, refl, ap, sym, ◌∙◌, subst, List, [], ◌∷◌, ◌++◌, ℕ, zero, suc, ◌+◌, ◌*◌, ◌/◌, ◌%◌, ◌^◌, ◌≤◌, ◌<◌, arith}
use Rattle.reading.proofs.Prelude.{pow-succ', pow-zero, length, take, drop, get_or, length-drop, drop-cons, take_at, drop_at}
use Rattle.reading.proofs.Prelude.{length-take-le, WORD_BYTES, BYTE_VALUES, WORD_VALUES, spelled, word_at, bytes_of, word_bytes, IsByte, All}

-- one byte more in front
pub number_step : (s : List ℕ) (at k : ℕ) → at < length s
    → spelled (take (suc k) (drop at s)) ≡ get_or s at 0 + BYTE_VALUES * spelled (take k (drop (suc at) s))
unfolding spelled
number_step s at k h = rw (drop-cons s at 0 h)

-- ---- a word of eight bytes

-- the number that the machine makes of eight bytes, lowest first
pub machine_word : (s : List ℕ) → length s ≡ WORD_BYTES → from_le_bytes w64 s ≡ spelled s
unfolding spelled
machine_word s l =
    let whole : spelled (take 8 s) ≡ spelled s = ap spelled (take_all 8 s (omega arith)) in
    omega (
      arith,
      number_step s 0 7 (omega arith),
      number_step s 1 6 (omega arith),
      number_step s 2 5 (omega arith),
      number_step s 3 4 (omega arith),
      number_step s 4 3 (omega arith),
      number_step s 5 2 (omega arith),
      number_step s 6 1 (omega arith),
      number_step s 7 0 (omega arith),
    )

-- ---- bytes and numbers

pub length_bytes : (k w : ℕ) → length (bytes_of k w) ≡ k
unfolding bytes_of
length_bytes zero w = refl
length_bytes (suc k) w = ap suc (length_bytes k (w / BYTE_VALUES))

-- bytes and back
pub number_bytes : (k w : ℕ) → w < BYTE_VALUES ^ k → spelled (bytes_of k w) ≡ w
unfolding spelled bytes_of
number_bytes zero w h = omega (arith, pow-zero BYTE_VALUES)
number_bytes (suc k) w h =
    let e : BYTE_VALUES ^ suc k ≡ BYTE_VALUES * BYTE_VALUES ^ k = pow-succ' BYTE_VALUES k in
    let rec : spelled (bytes_of k (w / BYTE_VALUES)) ≡ w / BYTE_VALUES = number_bytes k (w / BYTE_VALUES) (omega arith) in
    omega arith

-- a number and back
pub bytes_number : (s : List ℕ) → All IsByte s → bytes_of (length s) (spelled s) ≡ s
unfolding spelled bytes_of
bytes_number [] h = refl
bytes_number (b ∷ s) h =
    let l : b < BYTE_VALUES = h.0 in
    let low : (b + BYTE_VALUES * spelled s) % BYTE_VALUES ≡ b = omega arith in
    let high : (b + BYTE_VALUES * spelled s) / BYTE_VALUES ≡ spelled s = omega arith in
    rw (low, high) (ap (λ (t : List ℕ). b ∷ t) (bytes_number s h.1))

pub number_fits : (s : List ℕ) → All IsByte s → spelled s < BYTE_VALUES ^ length s
unfolding spelled
number_fits [] h = omega (arith, pow-zero BYTE_VALUES)
number_fits (b ∷ s) h =
    let l : b < BYTE_VALUES = h.0 in
    let e : BYTE_VALUES ^ suc (length s) ≡ BYTE_VALUES * BYTE_VALUES ^ length s = pow-succ' BYTE_VALUES (length s) in
    let rec = number_fits s h.1 in
    omega arith

pub all_take : {A : Type 0} (P : A → Type 0) (n : ℕ) (s : List A) → All P s → All P (take n s)
all_take P zero s h = tt
all_take P (suc n) [] h = tt
all_take P (suc n) (x ∷ s) h = (h.0, all_take P n s h.1)

pub all_drop : {A : Type 0} (P : A → Type 0) (n : ℕ) (s : List A) → All P s → All P (drop n s)
all_drop P zero s h = h
all_drop P (suc n) [] h = tt
all_drop P (suc n) (x ∷ s) h = all_drop P n s h.1

-- the word behind n bytes
pub word_behind : (a : List ℕ) (n w : ℕ) (t : List ℕ) → length a ≡ n → w < WORD_VALUES → word_at n (a ++ (word_bytes w ++ t)) ≡ w
unfolding word_at
word_behind a n w t e h =
    rw (drop_at a (word_bytes w ++ t) n e, take_at (word_bytes w) t WORD_BYTES (length_bytes WORD_BYTES w)) (number_bytes WORD_BYTES w h)

-- a word is the bytes that it is read from, and fits
module _ (s : List ℕ) (n : ℕ) (long : n + WORD_BYTES ≤ length s) (bytes : All IsByte s) where
  abbrev part : List ℕ
  part = take WORD_BYTES (drop n s)

  part_long : length part ≡ WORD_BYTES
  part_long = length-take-le WORD_BYTES (drop n s) (omega (arith, length-drop n s))

  small : All IsByte part
  small = all_take _ WORD_BYTES (drop n s) (all_drop _ n s bytes)

  pub word_bytes_lem : word_bytes (word_at n s) ≡ part
  unfolding word_at
  word_bytes_lem = ap (λ (k : ℕ). bytes_of k (spelled part)) (sym part_long) ∙ bytes_number part small

  pub word_fits : word_at n s < WORD_VALUES
  unfolding word_at
  word_fits = subst (λ (k : ℕ). spelled part < BYTE_VALUES ^ k) part_long (number_fits part small)
