-- What the definition of the largest reading means: it is the one that IsLargest describes, and there is no other.
use Rattle.packed_decimal.proofs.Prelude.{◌≡◌, refl, sym, ap, ap₂, ◌∙◌, subst, Bool, true, false, cond, List, ℕ, zero, suc, ◌+◌, ◌*◌, ◌≤◌, ◌<◌, arith}
use Rattle.packed_decimal.proofs.Prelude.{dec_lt, ℕ_discrete, ltb, leb, length, ltb-true, ltb-false, leb-true, le-leb, Decides, lowest, decides}
use Rattle.packed_decimal.proofs.Prelude.{decides_iff, decides_or, decides_not, DIGITS, NOT_MEASURED, unpacked, says, READING_BYTES, readings}
use Rattle.packed_decimal.proofs.Prelude.{reading_at, BadAt, bad_at, larger, largest_of, largest_in, IsLargest, LargestRight, refusal_spot, Some}
use Rattle.packed_decimal.proofs.Prelude.{Refusal, BadReading, Option, Placed, Err}
use Rattle.packed_decimal.specs.Largest.{LargestRight.largest, LargestRight.none_measured}
use Rattle.packed_decimal.proofs.FirstBad.{unless_refused_lem, unless_answered}
use Rattle.packed_decimal.proofs.Readings.{decides_reading, unmeasured_says, measured_says}

-- ---- the largest of some words

-- what holds below n and at n holds below n + 1
one_more : {P : ℕ → Type 0} (n : ℕ) → ((i : ℕ) → i < n → P i) → P n → (i : ℕ) → i < suc n → P i
one_more {P} n f h i l = go (ℕ_discrete i n)
  where
    go : Dec (i ≡ n) → P i
    go (yes e) = subst P (sym e) h
    go (no e) = f i (omega arith)

module _ (words : ℕ → ℕ) (n : ℕ) where
  -- what was found stays the largest, if the reading that is added is not measured or no larger
  stays_largest : {best at : ℕ} → IsLargest words n best at → (¬ (words n ≡ NOT_MEASURED) → unpacked DIGITS (words n) ≤ unpacked DIGITS best)
      → IsLargest words (suc n) best at
  stays_largest r l = record {
    within = omega (arith, r.within);
    here = r.here;
    measured = r.measured;
    none_larger = one_more n r.none_larger l;
    none_before = r.none_before;
  }

  unmeasured_more : {found : Option Placed} → words n ≡ NOT_MEASURED → LargestRight words n found → LargestRight words (suc n) found
  unmeasured_more e (largest r) = largest (stays_largest r (λ m. absurd (m e)))
  unmeasured_more e (none_measured f) = none_measured (one_more n f e)

  module _ (other : ¬ (words n ≡ NOT_MEASURED)) where
    -- the first that is measured
    first_more : ((i : ℕ) → i < n → words i ≡ NOT_MEASURED) → IsLargest words (suc n) (words n) n
    first_more f = record {
      within = omega arith;
      here = refl;
      measured = other;
      none_larger = one_more n (λ i l m. absurd (m (f i l))) (λ m. omega arith);
      none_before = λ i l m. absurd (m (f i l));
    }

    -- a larger one
    larger_more : {best at : ℕ} → IsLargest words n best at → unpacked DIGITS best < unpacked DIGITS (words n) → IsLargest words (suc n) (words n) n
    larger_more r l = record {
      within = omega arith;
      here = refl;
      measured = other;
      none_larger = one_more n (λ i k m. omega (arith, r.none_larger i k m)) (λ m. omega arith);
      none_before = λ i k m. omega (arith, r.none_larger i k m);
    }

    either_more : {best : Placed} (b : Bool) → ltb (unpacked DIGITS best.word) (unpacked DIGITS (words n)) ≡ b → IsLargest words n best.word best.place
        → LargestRight words (suc n) (cond b (Some (record { word = words n; place = n })) (Some best))
    either_more true e r = largest (larger_more r (ltb-true _ _ e))
    either_more false e r = largest (stays_largest r (λ m. ltb-false _ _ e))

    measured_more : {found : Option Placed} → LargestRight words n found
        → LargestRight words (suc n) (larger found (Some (unpacked DIGITS (words n))) (words n) n)
    measured_more (largest {best = best} r) = either_more (ltb (unpacked DIGITS best.word) (unpacked DIGITS (words n))) refl r
    measured_more (none_measured f) = largest (first_more f)

-- what the definition gives is right
pub largest_right : (words : ℕ → ℕ) (n : ℕ) → LargestRight words n (largest_of words n)
unfolding largest_of
largest_right words zero = none_measured (λ i l. absurd (omega arith))
largest_right words (suc n) = go (ℕ_discrete (words n) NOT_MEASURED) (largest_right words n)
  where
    go : Dec (words n ≡ NOT_MEASURED) → LargestRight words n (largest_of words n)
        → LargestRight words (suc n) (larger (largest_of words n) (says (words n)) (words n) n)
    go (yes e) r = rw (unmeasured_says (words n) e) (unmeasured_more words n e r)
    go (no e) r = rw (measured_says (words n) e) (measured_more words n e r)

-- and nothing else is
module _ {words : ℕ → ℕ} {n : ℕ} where
  not-before : {v w p q : ℕ} → IsLargest words n v p → IsLargest words n w q → ¬ (p < q)
  not-before {v} {w} {p} {q} a b l =
      let first = b.none_before p l (rw a.here a.measured) in
      let second = a.none_larger q b.within (rw b.here b.measured) in
      let first' : unpacked DIGITS v < unpacked DIGITS w = rw a.here at first in
      let second' : unpacked DIGITS w ≤ unpacked DIGITS v = rw b.here at second in
      omega arith

  right_same : {f g : Option Placed} → LargestRight words n f → LargestRight words n g → f ≡ g
  right_same (largest {best = v} a) (largest {best = w} b) =
      let e : v.place ≡ w.place = omega (arith, not-before a b, not-before b a) in
      ap₂ (λ (word place : ℕ). Some (record { word = word; place = place })) (sym a.here ∙ ap words e ∙ b.here) e
  right_same (largest {best = v} a) (none_measured g) = absurd (a.measured (sym a.here ∙ g v.place a.within))
  right_same (none_measured f) (largest {best = w} b) = absurd (b.measured (sym b.here ∙ f w.place b.within))
  right_same (none_measured f) (none_measured g) = refl

pub largest_only : {words : ℕ → ℕ} {n : ℕ} {found : Option Placed} → LargestRight words n found → found ≡ largest_of words n
largest_only {words} {n} r = right_same r (largest_right words n)

-- ---- bad readings of a run

pub decides_bad : (bytes : List ℕ) (i : ℕ) → Decides (BadAt bytes i) (bad_at bytes i)
unfolding bad_at
decides_bad bytes i =
    let lone : Decides (length bytes ≤ READING_BYTES * i + 1) (leb (length bytes) (READING_BYTES * i + 1)) =
    decides _ (leb-true _ _) (le-leb _ _) in
    decides_iff (λ b. record { bad = b }) (λ h. h.bad) (decides_or lone (decides_not (decides_reading (reading_at bytes i))))

-- a run is refused at one of its readings
pub refused_within : (bytes : List ℕ) (r : Refusal) → largest_in bytes ≡ Err r → refusal_spot r < readings bytes
unfolding largest_in
refused_within bytes r e = go (dec_lt (lowest (readings bytes) (bad_at bytes)) (readings bytes))
  where
    go : Dec (lowest (readings bytes) (bad_at bytes) < readings bytes) → refusal_spot r < readings bytes
    go (yes l) =
        let refused = unless_refused_lem (readings bytes) (bad_at bytes) (largest_of (reading_at bytes) (readings bytes)) l in
        let same : r ≡ BadReading (lowest (readings bytes) (bad_at bytes)) = cc in
        rw same l
    go (no l) =
        let answered = unless_answered (readings bytes) (bad_at bytes) (largest_of (reading_at bytes) (readings bytes)) (omega arith) in
        let z : ◌≡◌ {A = ℕ} 0 1 = cc in
        absurd (omega arith)
