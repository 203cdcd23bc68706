-- The kit's digits: `io::decimal` makes `places n` of them, and `io::hex` sixteen.
use Rattle.sheet.proofs.Prelude.{ℕ, zero, suc, ◌-◌, ◌*◌, ◌/◌, ◌^◌, ◌≤◌, ◌<◌, ◌≡◌, refl, sym, ap, ◌∙◌, List, Bool, true, false, pow-suc}
use Rattle.sheet.proofs.Prelude.{pow-le-pow_right, lt_trans, add-one, arith, dec_lt, lt-ltb, le-ltb, leb-true, leb-false, leb, lit<, lit≤, length}
use Rattle.sheet.proofs.Prelude.{length-append, places_within, places, decimal, hexadecimal}
use Rattle.io.specs.Digits.{last_digits, IsDigitCount}

length_digits : (b k n : ℕ) → length (last_digits b k n) ≡ k
length_digits b zero n = refl
length_digits b (suc k) n = length-append (last_digits b k (n / b)) _ ∙ rw (length_digits b k (n / b), add-one)

one_le_power : (k : ℕ) → 1 ≤ 10 ^ k
one_le_power zero = omega arith
one_le_power (suc k) = let h = one_le_power k in rw pow-suc (omega arith)

suc_sub_one : (k : ℕ) → suc k - 1 ≡ k
suc_sub_one k = omega arith

places_step : (turns n : ℕ) → 10 ≤ n → places_within (suc turns) n ≡ suc (places_within turns (n / 10))
unfolding places_within
places_step turns n h = rw (places_within, le-ltb n 10 h)

places_last : (turns n : ℕ) → n < 10 → places_within (suc turns) n ≡ 1
unfolding places_within
places_last turns n h = rw (places_within, lt-ltb n 10 h)

-- the fewest digits that hold n are as many as the definition counts
fewest_within : (turns n k : ℕ) → n < turns → IsDigitCount 10 1 n k → k ≡ places_within turns n
fewest_within zero n k h f = absurd (omega arith)
fewest_within (suc turns) n zero h f = absurd (omega arith)
fewest_within (suc turns) n (suc zero) h f = sym (places_last turns n (omega arith))
fewest_within (suc turns) n (suc (suc k)) h f =
    let one = one_le_power k in
    let top : n < 10 ^ k * 10 * 10 = rw (← pow-suc, ← pow-suc) f.1 in
    let low : 10 ^ k * 10 ≤ n = rw (← pow-suc, ← suc_sub_one (suc k)) (f.2 (omega arith)) in
    let tenth : n / 10 < 10 ^ suc k = rw pow-suc (omega arith) in
    let low' : 10 ^ (suc k - 1) ≤ n / 10 = rw (suc_sub_one k) (omega arith) in
    sym (places_step turns n (omega arith) ∙ ap suc (sym (fewest_within turns (n / 10) (suc k) (omega arith) (omega arith, tenth, λ _. low'))))

fewest_decimal : (n k : ℕ) → IsDigitCount 10 1 n k → last_digits 10 k n ≡ decimal n
unfolding decimal places
fewest_decimal n k f = ap (λ (p : ℕ). last_digits 10 p n) (fewest_within (suc n) n k (omega arith) f)

-- a number below a power of the base has no more digits than the power says
fewest_at_most : (b least most n k : ℕ) → 0 < b → least ≤ most → n < b ^ most → IsDigitCount b least n k → k ≤ most
fewest_at_most b least most n k pos le below f = go (leb k most) refl
  where
    go : (t : Bool) → leb k most ≡ t → k ≤ most
    go true e = leb-true k most e
    go false e =
        let more = leb-false k most e in
        let low = f.2 (omega arith) in
        let powers : b ^ most ≤ b ^ (k - 1) = pow-le-pow_right pos (omega arith) in
        absurd (omega arith)

-- the same of the definition's digits
places_at_most : (turns n k : ℕ) → 0 < k → n < 10 ^ k → places_within turns n ≤ k
unfolding places_within
places_at_most zero n k pos h = omega arith
places_at_most (suc turns) n zero pos h = absurd (omega arith)
places_at_most (suc turns) n (suc zero) pos h = let e : places_within (suc turns) n ≡ 1 = places_last turns n (omega arith) in omega arith
places_at_most (suc turns) n (suc (suc k)) pos h = go (dec_lt n 10) (places_at_most turns (n / 10) (suc k))
  where
    go : Dec (n < 10) → (0 < suc k → n / 10 < 10 ^ suc k → places_within turns (n / 10) ≤ suc k) → places_within (suc turns) n ≤ suc (suc k)
    go (yes l) rec = let e : places_within (suc turns) n ≡ 1 = places_last turns n l in omega arith
    go (no l) rec =
        let top : n < 10 ^ suc k * 10 = rw (← pow-suc) h in
        let e : places_within (suc turns) n ≡ suc (places_within turns (n / 10)) = places_step turns n (omega arith) in
        let few : places_within turns (n / 10) ≤ suc k = rec (omega arith) (omega arith) in
        omega arith

pub decimal_at_most : (n k : ℕ) → 0 < k → n < 10 ^ k → length (decimal n) ≤ k
unfolding decimal places
decimal_at_most n k pos h = omega (arith, length_digits 10 (places_within (suc n) n) n, places_at_most (suc n) n k pos h)

-- what `io::decimal` makes
pub decimal_made : (n k : ℕ) (bytes : List ℕ) → IsDigitCount 10 1 n k → bytes ≡ last_digits 10 k n → bytes ≡ decimal n
decimal_made n k bytes f e = e ∙ fewest_decimal n k f

pub decimal_places : (n k : ℕ) → n < 2 ^ 64 → IsDigitCount 10 1 n k → (k ≡ length (decimal n)) × (k ≤ 20)
decimal_places n k h f = (
  sym (length_digits 10 k n) ∙ ap length (fewest_decimal n k f),
  fewest_at_most 10 1 20 n k (lit< tt) (lit≤ tt) (lt_trans h (lit< tt)) f,
)

-- what `io::hex` makes
pub hexadecimal_made : (w k : ℕ) (bytes : List ℕ) → w < 2 ^ 64 → IsDigitCount 16 16 w k → bytes ≡ last_digits 16 k w → bytes ≡ hexadecimal w
unfolding hexadecimal
hexadecimal_made w k bytes h f e =
    let most = fewest_at_most 16 16 16 w k (lit< tt) (lit≤ tt) h f in
    let sixteen : k ≡ 16 = omega arith in
    e ∙ ap (λ (p : ℕ). last_digits 16 p w) sixteen

pub length_hexadecimal : (w : ℕ) → length (hexadecimal w) ≡ 16
unfolding hexadecimal
length_hexadecimal w = length_digits 16 16 w
