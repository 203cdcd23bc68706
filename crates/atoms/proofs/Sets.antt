-- The laws of words as sets: each operation by its members, extensionality, and what the tests say.
-- Everything above cites these; the digits stand behind them and nowhere else.
use Rattle.atoms.proofs.Prelude.{◌≡◌, refl, sym, ◌∙◌, subst, ◌⊎◌, inl, inr, ℕ, suc, ◌+◌, ◌-◌, ◌*◌, ◌/◌, ◌^◌, ◌≤◌, ◌<◌, arith, ℕ_discrete, dec_lt}
use Rattle.atoms.proofs.Prelude.{div-lt_iff_lt-mul, bit_and, and_le_l, and_le_r, or_lt, pow_pos, bin_ind, eqb-true, eq-eqb, digit, Has, has, ◌⊆◌}
use Rattle.atoms.proofs.Prelude.{subset, ◌⊂◌, Apart, apart, ◌∩◌, ◌∪◌, ◌∖◌, atom, below, outside, ATOMS, Decides}
use Rattle.atoms.proofs.Digits.{digit_lt, digit_zero, digit_low, digit_next, and_at, or_at, sub_at, same_digits, power_at, power_off, high_digit}
use Rattle.atoms.proofs.Digits.{shifted_digit, ones_at}
use Rattle.atoms.proofs.Tests.{decides, decides_iff, decides_equal, decided}

-- ---- membership is decidable

pub decides_has : (w i : ℕ) → Decides (Has w i) (has w i)
unfolding has
decides_has w i = decides_iff (λ e. record { bit = e }) (λ h. h.bit) (decides_equal (digit w i) 1)

pub has_dec : (w i : ℕ) → Dec (Has w i)
has_dec w i = decided (decides_has w i)

digit_of_not : {w i : ℕ} → ¬ Has w i → digit w i ≡ 0
digit_of_not {w} {i} h =
    let l : digit w i < 2 = digit_lt w i in
    let n : ¬ (digit w i ≡ 1) = λ e. h (record { bit = e }) in
    omega arith

-- ---- each operation by its members

pub has_cut : (a b : ℕ) {i : ℕ} → Has a i → Has b i → Has (a ∩ b) i
unfolding ◌∩◌
has_cut a b {i} p q = record { bit = omega (arith, and_at a b i, p.bit, q.bit) }

pub cut_left : (a b : ℕ) {i : ℕ} → Has (a ∩ b) i → Has a i
unfolding ◌∩◌
cut_left a b {i} p = record { bit = omega (arith, and_at a b i, p.bit, digit_lt a i) }

pub cut_right : (a b : ℕ) {i : ℕ} → Has (a ∩ b) i → Has b i
unfolding ◌∩◌
cut_right a b {i} p = record { bit = omega (arith, and_at a b i, p.bit, digit_lt b i) }

pub has_left : (a b : ℕ) {i : ℕ} → Has a i → Has (a ∪ b) i
unfolding ◌∪◌
has_left a b {i} p = record { bit = omega (arith, or_at a b i, p.bit, digit_lt b i) }

pub has_right : (a b : ℕ) {i : ℕ} → Has b i → Has (a ∪ b) i
unfolding ◌∪◌
has_right a b {i} p = record { bit = omega (arith, or_at a b i, p.bit, digit_lt a i) }

pub union_cases : (a b : ℕ) {i : ℕ} → Has (a ∪ b) i → Has a i ⊎ Has b i
unfolding ◌∪◌
union_cases a b {i} p = go (has_dec a i)
  where
    go : Dec (Has a i) → Has a i ⊎ Has b i
    go (yes h) = inl h
    go (no h) = inr (record { bit = omega (arith, or_at a b i, p.bit, digit_of_not h) })

pub has_without : (a b : ℕ) {i : ℕ} → Has a i → ¬ Has b i → Has (a ∖ b) i
unfolding ◌∖◌
has_without a b {i} p h = record { bit = omega (arith, sub_at a b i, p.bit, digit_of_not h) }

pub without_left : (a b : ℕ) {i : ℕ} → Has (a ∖ b) i → Has a i
unfolding ◌∖◌
without_left a b {i} p = record { bit = omega (arith, sub_at a b i, p.bit, digit_lt a i) }

pub without_right : (a b : ℕ) {i : ℕ} → Has (a ∖ b) i → ¬ Has b i
unfolding ◌∖◌
without_right a b {i} p q = omega (arith, sub_at a b i, p.bit, q.bit, digit_lt a i)

pub has_atom : (i : ℕ) → Has (atom i) i
unfolding atom
has_atom i = record { bit = power_at i }

pub atom_only : (i : ℕ) {j : ℕ} → Has (atom i) j → i ≡ j
unfolding atom
atom_only i {j} p = go (ℕ_discrete i j)
  where
    go : Dec (i ≡ j) → i ≡ j
    go (yes e) = e
    go (no h) = absurd (omega (arith, power_off i j h, p.bit))

pub has_none : {i : ℕ} → ¬ Has 0 i
has_none {i} p = omega (arith, digit_zero i, p.bit)

pub has_below : (n i : ℕ) → i < n → Has (below n) i
unfolding below
has_below n i h = record { bit = ones_at n i h }

-- a word below 2 ^ n has atoms below n only
pub has_lt : (w n : ℕ) {i : ℕ} → w < 2 ^ n → Has w i → i < n
has_lt w n {i} l p = go (dec_lt i n)
  where
    go : Dec (i < n) → i < n
    go (yes h) = h
    go (no h) = absurd (omega (arith, high_digit w n i l (omega arith), p.bit))

pub below_lt : (n : ℕ) {i : ℕ} → Has (below n) i → i < n
unfolding below
below_lt n p = has_lt (below n) n (omega (arith, pow_pos n)) p

pub has_outside : (w : ℕ) {i : ℕ} → i < ATOMS → ¬ Has w i → Has (outside w) i
unfolding outside
has_outside w {i} l n = has_without (below ATOMS) w (has_below ATOMS i l) n

pub outside_lt : (w : ℕ) {i : ℕ} → Has (outside w) i → i < ATOMS
unfolding outside
outside_lt w h = below_lt ATOMS (without_left (below ATOMS) w h)

pub outside_lacks : (w : ℕ) {i : ℕ} → Has (outside w) i → ¬ Has w i
unfolding outside
outside_lacks w h = without_right (below ATOMS) w h

-- ---- equality and emptiness

-- sets with the same members are equal
pub ext : (a b : ℕ) → ((i : ℕ) → Has a i → Has b i) → ((i : ℕ) → Has b i → Has a i) → a ≡ b
ext a b f g = same_digits a b (λ i. go i (has_dec a i))
  where
    go : (i : ℕ) → Dec (Has a i) → digit a i ≡ digit b i
    go i (yes p) = p.bit ∙ sym (f i p).bit
    go i (no h) = digit_of_not h ∙ sym (digit_of_not {w = b} (λ q. h (g i q)))

pub empty : (a : ℕ) → ((i : ℕ) → ¬ Has a i) → a ≡ 0
empty a h = ext a 0 (λ i p. absurd (h i p)) (λ i p. absurd (has_none p))

-- a word that is not 0 has an atom
pub some_atom : (a : ℕ) → ¬ (a ≡ 0) → (i : ℕ) × Has a i
some_atom = bin_ind (λ (n : ℕ). ¬ (n ≡ 0) → (i : ℕ) × Has n i) (λ h. absurd (h refl)) step
  where
    low : (n : ℕ) → n / 2 ≡ 0 → ¬ (n ≡ 0) → digit n 0 ≡ 1
    low n e h = digit_low n ∙ omega arith

    step : (n : ℕ) → (¬ (n / 2 ≡ 0) → (i : ℕ) × Has (n / 2) i) → ¬ (n ≡ 0) → (i : ℕ) × Has n i
    step n ih h = go (ℕ_discrete (n / 2) 0)
      where
        go : Dec (n / 2 ≡ 0) → (i : ℕ) × Has n i
        go (yes e) = (0, record { bit = low n e h })
        go (no e) = let r = ih e in (suc r.0, record { bit = digit_next n r.0 ∙ r.1.bit })

-- a word whose atoms are all below n is below 2 ^ n
pub lt_of_has : (w n : ℕ) → ((i : ℕ) → Has w i → i < n) → w < 2 ^ n
lt_of_has w n h = go (ℕ_discrete (w / 2 ^ n) 0)
  where
    go : Dec (w / 2 ^ n ≡ 0) → w < 2 ^ n
    go (yes e) =
        let q : w / 2 ^ n < 1 = omega arith in
        let r : w < 1 * 2 ^ n = (div-lt_iff_lt-mul (pow_pos n)).0 q in
        omega arith
    go (no e) =
        let s = some_atom (w / 2 ^ n) e in
        let t : n + s.0 < n = h (n + s.0) (record { bit = sym (shifted_digit w n s.0) ∙ s.1.bit }) in
        absurd (omega arith)

-- ---- subset

pub subset_refl : {a : ℕ} → a ⊆ a
subset_refl = record { each = λ i p. p }

pub subset_trans : {a b c : ℕ} → a ⊆ b → b ⊆ c → a ⊆ c
subset_trans f g = record { each = λ i p. g.each i (f.each i p) }

pub subset_antisym : {a b : ℕ} → a ⊆ b → b ⊆ a → a ≡ b
subset_antisym {a} {b} f g = ext a b f.each g.each

pub subset_of_eq : {a b : ℕ} → a ≡ b → a ⊆ b
subset_of_eq {a} e = subst (λ (x : ℕ). a ⊆ x) e subset_refl

cut_whole : {a b : ℕ} → a ⊆ b → a ∩ b ≡ a
cut_whole {a} {b} f = ext (a ∩ b) a (λ i p. cut_left a b p) (λ i p. has_cut a b p (f.each i p))

pub decides_subset : (a b : ℕ) → Decides (a ⊆ b) (subset a b)
unfolding subset ◌∩◌
decides_subset a b =
    decides (subset a b)
    (λ e. record { each = λ i p. cut_right a b (subst (λ (x : ℕ). Has x i) (sym (eqb-true (a ∩ b) a e)) p) })
    (λ f. eq-eqb (a ∩ b) a (cut_whole f))

pub subset_dec : (a b : ℕ) → Dec (a ⊆ b)
subset_dec a b = decided (decides_subset a b)

pub decides_apart : (a b : ℕ) → Decides (Apart a b) (apart a b)
unfolding apart ◌∩◌
decides_apart a b =
    decides (apart a b)
    (λ e. record { none = λ i p q. has_none (subst (λ (x : ℕ). Has x i) (eqb-true (a ∩ b) 0 e) (has_cut a b p q)) })
    (λ f. eq-eqb (a ∩ b) 0 (empty (a ∩ b) (λ i p. f.none i (cut_left a b p) (cut_right a b p))))

pub apart_of_cut : (a b : ℕ) → a ∩ b ≡ 0 → Apart a b
apart_of_cut a b e = record { none = λ i p q. has_none (subst (λ (x : ℕ). Has x i) e (has_cut a b p q)) }

pub cut_of_apart : {a b : ℕ} → Apart a b → a ∩ b ≡ 0
cut_of_apart {a} {b} f = empty (a ∩ b) (λ i p. f.none i (cut_left a b p) (cut_right a b p))

-- a member of both where they are not apart
pub shared_atom : (a b : ℕ) → ¬ (a ∩ b ≡ 0) → (i : ℕ) × Has a i × Has b i
shared_atom a b h =
    let s = some_atom (a ∩ b) h in
    (s.0, cut_left a b s.1, cut_right a b s.1)

-- a number is in a word exactly if its own set is not apart from it
pub decides_has_atom : (w i : ℕ) → Decides (¬ Has w i) (apart w (atom i))
decides_has_atom w i =
    decides_iff (λ f h. f.none i h (has_atom i)) (λ n. record { none = λ j p q. n (subst (λ (x : ℕ). Has w x) (sym (atom_only i q)) p) })
    (decides_apart w (atom i))

-- a subset is at most as large as a number, and a proper one smaller
pub subset_le : {a b : ℕ} → a ⊆ b → a ≤ b
unfolding ◌∩◌
subset_le {a} {b} f = subst (λ (x : ℕ). x ≤ b) (cut_whole f) (and_le_r a b)

pub subset_lt : {a b : ℕ} → a ⊂ b → a < b
subset_lt {a} {b} f =
    let l : a ≤ b = subset_le f.within in
    let n : ¬ (a ≡ b) = λ e. f.short (subset_of_eq (sym e)) in
    omega arith

-- ---- unions

pub union_none_left : (a : ℕ) → 0 ∪ a ≡ a
union_none_left a = ext (0 ∪ a) a (λ i p. go i (union_cases 0 a p)) (λ i p. has_right 0 a p)
  where
    go : (i : ℕ) → Has 0 i ⊎ Has a i → Has a i
    go i (inl p) = absurd (has_none p)
    go i (inr p) = p

pub union_none_right : (a : ℕ) → a ∪ 0 ≡ a
union_none_right a = ext (a ∪ 0) a (λ i p. go i (union_cases a 0 p)) (λ i p. has_left a 0 p)
  where
    go : (i : ℕ) → Has a i ⊎ Has 0 i → Has a i
    go i (inl p) = p
    go i (inr p) = absurd (has_none p)

pub union_assoc : (a b c : ℕ) → (a ∪ b) ∪ c ≡ a ∪ (b ∪ c)
union_assoc a b c = ext ((a ∪ b) ∪ c) (a ∪ (b ∪ c)) (λ i p. left i (union_cases (a ∪ b) c p)) (λ i p. right i (union_cases a (b ∪ c) p))
  where
    left_in : (i : ℕ) → Has a i ⊎ Has b i → Has (a ∪ (b ∪ c)) i
    left_in i (inl p) = has_left a (b ∪ c) p
    left_in i (inr p) = has_right a (b ∪ c) (has_left b c p)

    left : (i : ℕ) → Has (a ∪ b) i ⊎ Has c i → Has (a ∪ (b ∪ c)) i
    left i (inl p) = left_in i (union_cases a b p)
    left i (inr p) = has_right a (b ∪ c) (has_right b c p)

    right_in : (i : ℕ) → Has b i ⊎ Has c i → Has ((a ∪ b) ∪ c) i
    right_in i (inl p) = has_left (a ∪ b) c (has_right a b p)
    right_in i (inr p) = has_right (a ∪ b) c p

    right : (i : ℕ) → Has a i ⊎ Has (b ∪ c) i → Has ((a ∪ b) ∪ c) i
    right i (inl p) = has_left (a ∪ b) c (has_left a b p)
    right i (inr p) = right_in i (union_cases b c p)

-- b before a
pub union_swap : (a b c : ℕ) → a ∪ (b ∪ c) ≡ b ∪ (a ∪ c)
union_swap a b c = ext (a ∪ (b ∪ c)) (b ∪ (a ∪ c)) (λ i p. to a b i (union_cases a (b ∪ c) p)) (λ i p. to b a i (union_cases b (a ∪ c) p))
  where
    inner : (x y i : ℕ) → Has y i ⊎ Has c i → Has (y ∪ (x ∪ c)) i
    inner x y i (inl p) = has_left y (x ∪ c) p
    inner x y i (inr p) = has_right y (x ∪ c) (has_right x c p)

    to : (x y i : ℕ) → Has x i ⊎ Has (y ∪ c) i → Has (y ∪ (x ∪ c)) i
    to x y i (inl p) = has_right y (x ∪ c) (has_left x c p)
    to x y i (inr p) = inner x y i (union_cases y c p)

-- ---- sizes

pub cut_fits : (a b k : ℕ) → a < 2 ^ k → a ∩ b < 2 ^ k
unfolding ◌∩◌
cut_fits a b k h = let l : bit_and a b ≤ a = and_le_l a b in omega arith

pub union_fits : (a b k : ℕ) → a < 2 ^ k → b < 2 ^ k → a ∪ b < 2 ^ k
unfolding ◌∪◌
union_fits a b k p q = or_lt k a b p q

pub without_fits : (a b k : ℕ) → a < 2 ^ k → a ∖ b < 2 ^ k
unfolding ◌∖◌
without_fits a b k h = let l : a - bit_and a b ≤ a = omega arith in omega arith
