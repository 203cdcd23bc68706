-- Tallies: what a write does to the counts, a word counted place by place, and the atoms with the highest count.
use Rattle.std.proofs.lemmas.List.{length-reverse, get_or-reverse}
use Rattle.std.specs.Prelude.{reverse}
use Rattle.atoms.proofs.Prelude.{◌≡◌, refl, sym, ap, subst, ◌∙◌, Bool, true, false, List, [], ◌∷◌, ℕ, zero, suc, ◌+◌, ◌-◌, ◌*◌, ◌/◌, ◌%◌, ◌^◌, ◌≤◌}
use Rattle.atoms.proofs.Prelude.{◌<◌, arith, dec_lt, pow-succ', mul_assoc, mul-add, mod-eq_of_lt, add-mul-mod_self_left, add-one, bit_xor, and_step}
use Rattle.atoms.proofs.Prelude.{xor_shr, xor_add_and, eqb, length, get_or, set, drop, length-set, drop_of_length-le, drop-cons, digit, Has, ◌∩◌}
use Rattle.atoms.proofs.Prelude.{Decides, tallied, Tallied, preferred, HighestCount, MostCounted}
use Rattle.atoms.proofs.Digits.{digit_lt, digit_zero, and_at}
use Rattle.atoms.proofs.Sets.{has_cut, cut_left, cut_right, has_none, shared_atom}
use Rattle.atoms.proofs.Tests.{decides_equal}

-- ---- the counts

pub tallied_lt : (xs : List ℕ) (i : ℕ) → tallied xs i < 2 ^ length xs
unfolding tallied
tallied_lt [] i = omega arith
tallied_lt (p ∷ ps) i = omega (arith, tallied_lt ps i, pow-succ' 2 (length ps), digit_lt p i)

-- a place twice as high
higher : (k d : ℕ) → 2 ^ suc k * d ≡ 2 * (2 ^ k * d)
higher k d = ap (λ (x : ℕ). x * d) (pow-succ' 2 k) ∙ mul_assoc 2 (2 ^ k) d

-- one place is written anew
tallied_set : (xs : List ℕ) (k x i : ℕ) → k < length xs
    → tallied (set xs k x) i + 2 ^ k * digit (get_or xs k 0) i ≡ tallied xs i + 2 ^ k * digit x i
unfolding tallied
tallied_set [] k x i l = absurd (omega arith)
tallied_set (p ∷ ps) zero x i l = omega arith
tallied_set (p ∷ ps) (suc k) x i l =
    omega (arith, tallied_set ps k x i (omega arith), higher k (digit (get_or ps k 0) i), higher k (digit x i))

-- ---- a word is counted

-- the digit of a sum without its carry, and the carry
sum_at : (a b i : ℕ) → digit (bit_xor a b) i + 2 * digit (a ∩ b) i ≡ digit a i + digit b i
unfolding ◌∩◌
sum_at a b i =
    let e : digit (bit_xor a b) i ≡ bit_xor (a / 2 ^ i) (b / 2 ^ i) % 2 = ap (λ (x : ℕ). x % 2) (xor_shr a b i) in
    omega (arith, e, and_at a b i, and_step (a / 2 ^ i) (b / 2 ^ i), xor_add_and (a / 2 ^ i) (b / 2 ^ i))

-- the places below k are done, and the atoms of `carried` are still to be counted from there on
pub record Counting (word : ℕ) (before after : List ℕ) (carried k : ℕ) : Type 0 where
  pub same_length : length after ≡ length before
  pub within : k ≤ length before
  pub counts : (i : ℕ) → tallied after i + 2 ^ k * digit carried i ≡ tallied before i + digit word i

pub counting_start : (word : ℕ) (xs : List ℕ) → Counting word xs xs word 0
counting_start word xs = record { same_length = refl; within = omega arith; counts = λ i. omega arith }

pub counting_next : {word : ℕ} {before xs : List ℕ} {carried carried' k : ℕ} → Counting word before xs carried k → k < length xs
    → carried' ≡ get_or xs k 0 ∩ carried → Counting word before (set xs k (bit_xor (get_or xs k 0) carried)) carried' (k + 1)
counting_next {word} {before} {xs} {carried} {carried'} {k} c l e = rw (e, add-one) (record {
  same_length = length-set xs k (bit_xor (get_or xs k 0) carried) ∙ c.same_length;
  within = omega (arith, l, c.same_length);
  counts = λ i. each i;
})
  where
    here : ℕ
    here = get_or xs k 0

    each : (i : ℕ) → tallied (set xs k (bit_xor here carried)) i + 2 ^ suc k * digit (here ∩ carried) i ≡ tallied before i + digit word i
    each i =
        let d : 2 ^ k * (digit (bit_xor here carried) i + 2 * digit (here ∩ carried) i) ≡ 2 ^ k * (digit here i + digit carried i)
        = ap (λ (x : ℕ). 2 ^ k * x) (sum_at here carried i) in
        let p = mul-add (2 ^ k) (digit (bit_xor here carried) i) (2 * digit (here ∩ carried) i) in
        let q = mul-add (2 ^ k) (digit here i) (digit carried i) in
        let r : 2 ^ k * (2 * digit (here ∩ carried) i) ≡ 2 ^ suc k * digit (here ∩ carried) i = omega (arith, higher k (digit (here ∩ carried) i)) in
        omega (arith, c.counts i, tallied_set xs k (bit_xor here carried) i l, d, p, q, r)

-- nothing is carried any more, or the places are at their end
module _ {word : ℕ} {before after : List ℕ} {carried k : ℕ} (c : Counting word before after carried k) where
  fits : (i : ℕ) → tallied after i < 2 ^ length before
  fits i = subst (λ (n : ℕ). tallied after i < 2 ^ n) c.same_length (tallied_lt after i)

  pub counting_none : carried ≡ 0 → Tallied word before after
  counting_none e = record { same_length = c.same_length; counts = λ i. each i }
    where
      each : (i : ℕ) → tallied after i ≡ (tallied before i + digit word i) % 2 ^ length before
      each i =
          let z : digit carried i ≡ 0 = ap (λ (x : ℕ). digit x i) e ∙ digit_zero i in
          let m : 2 ^ k * digit carried i ≡ 2 ^ k * 0 = ap (λ (x : ℕ). 2 ^ k * x) z in
          let s : tallied after i ≡ tallied before i + digit word i = omega (arith, c.counts i, m) in
          sym (mod-eq_of_lt (fits i)) ∙ ap (λ (x : ℕ). x % 2 ^ length before) s

  pub counting_end : length after ≤ k → Tallied word before after
  counting_end n = record { same_length = c.same_length; counts = λ i. each i }
    where
      last : k ≡ length before
      last = omega (arith, n, c.within, c.same_length)

      each : (i : ℕ) → tallied after i ≡ (tallied before i + digit word i) % 2 ^ length before
      each i =
          let s : tallied after i + 2 ^ length before * digit carried i ≡ tallied before i + digit word i
          = subst (λ (n : ℕ). tallied after i + 2 ^ n * digit carried i ≡ tallied before i + digit word i) last (c.counts i) in
          sym (mod-eq_of_lt (fits i)) ∙ sym (add-mul-mod_self_left (tallied after i) (2 ^ length before) (digit carried i))
          ∙ ap (λ (x : ℕ). x % 2 ^ length before) s

-- ---- some atoms are preferred

pub preferred_word : (word better : ℕ) {both : ℕ} → both ≡ word ∩ better → both ≡ 0 → word ≡ preferred word better
unfolding preferred
preferred_word word better e z = go (eqb (word ∩ better) 0) (decides_equal (word ∩ better) 0)
  where
    go : (b : Bool) → Decides (word ∩ better ≡ 0) b → word ≡ elim b [ true ↦ word | false ↦ word ∩ better ]
    go true d = refl
    go false d = absurd (d.no refl (sym e ∙ z))

pub preferred_both : (word better : ℕ) {both : ℕ} → both ≡ word ∩ better → ¬ (both ≡ 0) → both ≡ preferred word better
unfolding preferred
preferred_both word better {both} e n = go (eqb (word ∩ better) 0) (decides_equal (word ∩ better) 0)
  where
    go : (b : Bool) → Decides (word ∩ better ≡ 0) b → both ≡ elim b [ true ↦ word | false ↦ word ∩ better ]
    go true d = absurd (n (e ∙ d.yes refl))
    go false d = e

-- ---- the atoms with the highest count

pub most_start : (places : List ℕ) (i word : ℕ) → length places ≤ i → MostCounted (drop i places) word word
unfolding tallied
most_start places i word l = rw (drop_of_length-le places {i = i} l) (record {
  each = λ i h. record { here = h; highest = λ j g. omega arith };
  all = λ i k. k.here;
})

module _ (p : ℕ) (ps : List ℕ) {word best : ℕ} (c : MostCounted ps word best) where
  -- a lower place changes the order of those alone that are alike in the higher ones
  above : {i : ℕ} → HighestCount (p ∷ ps) word i → Has best i
  unfolding tallied
  above {i} k = c.all i (record { here = k.here; highest = λ j h. omega (arith, k.highest j h, digit_lt p i, digit_lt p j) })

  -- none has the place
  unmarked : best ∩ p ≡ 0 → MostCounted (p ∷ ps) word best
  unfolding tallied
  unmarked e = record { each = λ i h. record { here = (c.each i h).here; highest = λ j g. least i h j g }; all = λ i k. above k }
    where
      bare : {j : ℕ} → Has best j → ¬ (digit p j ≡ 1)
      bare {j} h d = has_none (subst (λ (x : ℕ). Has x j) e (has_cut best p h (record { bit = d })))

      least : (i : ℕ) → Has best i → (j : ℕ) → Has word j → digit p j + 2 * tallied ps j ≤ digit p i + 2 * tallied ps i
      least i h j g = go (dec_lt (tallied ps j) (tallied ps i))
        where
          go : Dec (tallied ps j < tallied ps i) → digit p j + 2 * tallied ps j ≤ digit p i + 2 * tallied ps i
          go (yes l) = omega (arith, l, digit_lt p j)
          go (no n) =
              let m = (c.each i h).highest j g in
              let b = bare (c.all j (record { here = g; highest = λ k w. omega (arith, (c.each i h).highest k w, n) })) in
              omega (arith, m, n, b, digit_lt p j)

  -- some have it
  marked : ¬ (best ∩ p ≡ 0) → MostCounted (p ∷ ps) word (best ∩ p)
  unfolding tallied
  marked n = record {
    each = λ i h. record {
      here = (c.each i (cut_left best p h)).here;
      highest = λ j g. omega (arith, (c.each i (cut_left best p h)).highest j g, (cut_right best p h).bit, digit_lt p j);
    };
    all = λ i k. has_cut best p (above k) (record { bit = one i k });
  }
    where
      one : (i : ℕ) → HighestCount (p ∷ ps) word i → digit p i ≡ 1
      one i k =
          let b = shared_atom best p n in
          let top = c.each b.0 b.1 in
          omega (arith, k.highest b.0 top.here, top.highest i k.here, b.2.bit, digit_lt p i)

  pub most_of_lem : {r : ℕ} → r ≡ preferred best p → MostCounted (p ∷ ps) word r
  unfolding preferred
  most_of_lem {r} e = go (eqb (best ∩ p) 0) (decides_equal (best ∩ p) 0) e
    where
      go : (b : Bool) → Decides (best ∩ p ≡ 0) b → r ≡ elim b [ true ↦ best | false ↦ best ∩ p ] → MostCounted (p ∷ ps) word r
      go true d q = rw q (unmarked (d.yes refl))
      go false d q = rw q (marked (d.no refl))

most_next : (places : List ℕ) (j : ℕ) {word best r x : ℕ} → j < length places → MostCounted (drop (suc j) places) word best
    → x ≡ get_or places j x → r ≡ preferred best x → MostCounted (drop j places) word r
most_next places j {x = x} l c e d = let d' = rw e at d in rw (drop-cons places j x l) (most_of_lem (get_or places j x) (drop (suc j) places) c d')

-- the places are looked at from the last one on: n of them were, and x is the one before those
pub most_turn : (places : List ℕ) (n : ℕ) {m word best r x : ℕ} → (n < length (reverse places)) × (x ≡ get_or (reverse places) n x) → m ≡ n + 1
    → MostCounted (drop (length places - n) places) word best → r ≡ preferred best x → MostCounted (drop (length places - m) places) word r
most_turn places n {m} {word} {best} {r} {x} t e c d =
    let l : n < length places = omega (arith, length-reverse places, t.0) in
    let f : length places - m ≡ length places - 1 - n = omega (arith, e, l) in
    let g : length places - n ≡ suc (length places - 1 - n) = omega (arith, l) in
    let c' = rw g at c in
    rw f (most_next places (length places - 1 - n) (omega (arith, l)) c' (t.1 ∙ get_or-reverse places n x l) d)

pub most_end : (places : List ℕ) (n : ℕ) {word best : ℕ} → n ≡ length (reverse places) → MostCounted (drop (length places - n) places) word best
    → MostCounted places word best
most_end places n e c = let f : length places - n ≡ 0 = omega (arith, e, length-reverse places) in rw f at c

-- a count keeps the tally's length
pub counted_long : {word n : ℕ} {before after : List ℕ} → Tallied word before after → n ≡ length before → n ≡ length after
counted_long c e = e ∙ sym c.same_length
