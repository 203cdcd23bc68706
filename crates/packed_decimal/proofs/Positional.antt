-- The laws of digits, in any base and any number of them, each by induction over that number: the digits of a number make the number, and
-- digits that are read in another base are the digits there.
use Rattle.packed_decimal.proofs.Prelude.{◌≡◌, refl, ap, ◌∙◌, List, [], ◌∷◌, ◌++◌, List-as-Memᴰ, Memᴰ-head, Memᴰ-not-nil}
use Rattle.packed_decimal.proofs.Prelude.{Memᴰ-append_cases, Memᴰ-eq_of_singleton, Memᴰ-append_left, Memᴰ-append_right, ◌⊎◌, inl, inr, ℕ}
use Rattle.packed_decimal.proofs.Prelude.{zero, suc, ◌+◌, ◌*◌, ◌/◌, ◌%◌, ◌^◌, ◌≤◌, ◌<◌, arith, pow-suc, pow-zero, mul_assoc, add-mul, mod-lt}
use Rattle.packed_decimal.proofs.Prelude.{div-add-mod', div-mul-le_self, div-lt_iff_lt-mul, le-div_iff_mul-le, dec_lt, add-one, digits_lt, digits_div}
use Rattle.packed_decimal.proofs.Prelude.{digits_mod, length, length-append, digits, value_of, Below}

-- ---- a digit more at the low end

number_snoc : (base : ℕ) (ds : List ℕ) (d : ℕ) → value_of base (ds ++ (d ∷ [])) ≡ value_of base ds * base + d
unfolding value_of
number_snoc base [] d = rw (pow-zero base) (omega arith)
number_snoc base (e ∷ ds) d =
    let longer : length (ds ++ (d ∷ [])) ≡ suc (length ds) = length-append ds (d ∷ []) ∙ add-one (length ds) in
    rw (longer, pow-suc, ← mul_assoc, add-mul, number_snoc base ds d) (omega arith)

pub number_digits_suc : (from to n x : ℕ) → value_of to (digits from (suc n) x) ≡ value_of to (digits from n (x / from)) * to + x % from
unfolding digits
number_digits_suc from to n x = number_snoc to (digits from n (x / from)) (x % from)

pub below_last : {b : ℕ} (from n x : ℕ) → Below b (digits from (suc n) x) → x % from < b
unfolding digits
below_last from n x h = h.each (x % from) (Memᴰ-append_right (digits from n (x / from)) (Memᴰ-head refl))

pub below_rest : {b : ℕ} (from n x : ℕ) → Below b (digits from (suc n) x) → Below b (digits from n (x / from))
unfolding digits
below_rest from n x h = record { each = λ d m. h.each d (Memᴰ-append_left (x % from ∷ []) m) }

pub below_suc : {b : ℕ} (from n x : ℕ) → x % from < b → Below b (digits from n (x / from)) → Below b (digits from (suc n) x)
unfolding digits
below_suc {b} from n x l h = record { each = λ d m. go d (Memᴰ-append_cases (digits from n (x / from)) m) }
  where
    go : (d : ℕ) → List-as-Memᴰ d (digits from n (x / from)) ⊎ List-as-Memᴰ d (x % from ∷ []) → d < b
    go d (inl m) = h.each d m
    go d (inr m) = rw (Memᴰ-eq_of_singleton m) l

pub below_none : {b : ℕ} (from x : ℕ) → Below b (digits from 0 x)
unfolding digits
below_none from x = record { each = λ d m. absurd (Memᴰ-not-nil m) }

-- digits are below their base, and so below any larger one
pub digits_below : (base b n x : ℕ) → 0 < base → base ≤ b → Below b (digits base n x)
digits_below base b zero x pos l = below_none base x
digits_below base b (suc n) x pos l =
    below_suc base n x (omega (arith, mod-lt x pos)) (digits_below base b n (x / base) pos l)

-- ---- digits and the number that they make

quotient_lt : (base n x : ℕ) → 0 < base → x < base ^ suc n → x / base < base ^ n
quotient_lt base n x pos h = (div-lt_iff_lt-mul pos).1 (rw pow-suc at h)

-- the digits of a number make the number
pub number_digits : (base n x : ℕ) → 0 < base → x < base ^ n → value_of base (digits base n x) ≡ x
unfolding value_of digits
number_digits base zero x pos h = omega (arith, pow-zero base)
number_digits base (suc n) x pos h =
    number_digits_suc base base n x
    ∙ ap (λ (q : ℕ). q * base + x % base) (number_digits base n (x / base) pos (quotient_lt base n x pos h))
    ∙ div-add-mod' x base

-- digits that are read in another base are the digits there
pub digits_kept : (from to n x : ℕ) → Below to (digits from n x) → digits to n (value_of to (digits from n x)) ≡ digits from n x
unfolding digits
digits_kept from to zero x h = refl
digits_kept from to (suc n) x h =
    let rest : ℕ = value_of to (digits from n (x / from)) in
    let last : x % from < to = below_last from n x h in
    rw (number_digits_suc from to n x, digits_div rest last, digits_mod rest last)
    (ap (λ (ds : List ℕ). ds ++ (x % from ∷ [])) (digits_kept from to n (x / from) (below_rest from n x h)))

-- what is read in another base and back is the number again
pub read_back : (from to n x : ℕ) → 0 < from → x < from ^ n → Below to (digits from n x)
    → value_of from (digits to n (value_of to (digits from n x))) ≡ x
read_back from to n x pos h b = ap (value_of from) (digits_kept from to n x b) ∙ number_digits from n x pos h

-- digits below the base make a number below its power
pub number_lt : (from to n x : ℕ) → Below to (digits from n x) → value_of to (digits from n x) < to ^ n
unfolding value_of digits
number_lt from to zero x b = omega (arith, pow-zero to)
number_lt from to (suc n) x b =
    rw (number_digits_suc from to n x, pow-suc) (digits_lt (number_lt from to n (x / from) (below_rest from n x b)) (below_last from n x b))

-- ---- order

-- the higher digits decide, and where they are the same the last one does
last_decides : (from to x y qx qy : ℕ) → 0 < from → x % from < to → (x / from < y / from → qx < qy) → (x / from ≡ y / from → qx ≡ qy) → x < y
    → qx * to + x % from < qy * to + y % from
last_decides from to x y qx qy pos last higher same l = go (dec_lt (x / from) (y / from))
  where
    go : Dec (x / from < y / from) → qx * to + x % from < qy * to + y % from
    go (yes q) = omega (arith, digits_lt (higher q) last)
    go (no q) =
        let most : x / from ≤ y / from = (le-div_iff_mul-le pos).1 (omega (arith, div-mul-le_self x from)) in
        let e : x / from ≡ y / from = omega arith in
        let products : x / from * from ≡ y / from * from = ap (λ (k : ℕ). k * from) e in
        rw (same e) (omega (arith, div-add-mod' x from, div-add-mod' y from))

-- digits that are read in another base keep the order of the numbers
pub number_order : (from to n x y : ℕ) → 0 < from → x < from ^ n → y < from ^ n → Below to (digits from n x) → Below to (digits from n y)
    → x < y → value_of to (digits from n x) < value_of to (digits from n y)
number_order from to zero x y pos hx hy bx by l = absurd (omega (arith, pow-zero from))
number_order from to (suc n) x y pos hx hy bx by l =
    rw (number_digits_suc from to n x, number_digits_suc from to n y)
    (last_decides from to x y (value_of to (digits from n (x / from))) (value_of to (digits from n (y / from))) pos (below_last from n x bx)
    (number_order from to n (x / from) (y / from) pos (quotient_lt from n x pos hx) (quotient_lt from n y pos hy)
    (below_rest from n x bx) (below_rest from n y by))
    (ap (λ (q : ℕ). value_of to (digits from n q)))
    l)
