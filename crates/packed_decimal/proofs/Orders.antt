-- Words in place of numbers: packed digits stand to each other as the numbers do, so a comparison needs no conversion.
use Rattle.packed_decimal.proofs.Prelude.{◌≡◌, refl, ap, ap₂, ◌∙◌, [], ◌∷◌, ℕ, ◌≤◌, ◌<◌, arith, dec_lt, lt-ltb, le-ltb, DIGITS, NOT_MEASURED}
use Rattle.packed_decimal.proofs.Prelude.{true, is_reading, unpacked, says, unless_bad_of, order_by, reading_order, compared_of, MeasuredWord, Option, Some}
use Rattle.packed_decimal.proofs.Prelude.{None, Ok, Err, Refusal, Ordering, Less, Equal, Greater}
use Rattle.std.specs.Cmp.{ranked}
use Rattle.std.specs.Ordering.{MatchOrdering, nat_cmp}
use Rattle.packed_decimal.proofs.FirstBad.{pair_none, pair_refused}
use Rattle.packed_decimal.proofs.Conversion.{unpacked_order}
use Rattle.packed_decimal.proofs.Readings.{measured_says}

pub order_unmeasured_left : (r s : Option ℕ) → r ≡ None → reading_order r s ≡ None
order_unmeasured_left r s e = rw e refl

pub order_unmeasured_right : (r s : Option ℕ) → s ≡ None → reading_order r s ≡ None
order_unmeasured_right r s e = rw e (go r)
  where
    go : (r : Option ℕ) → reading_order r None ≡ None
    go (Some x) = refl
    go None = refl

-- "(below, equal, above)"
pub order_below : (x y : ℕ) → x < y → reading_order (Some x) (Some y) ≡ Some Less
order_below x y l = ap Some (ap₂ order_by (lt-ltb x y l) (le-ltb y x (omega arith)))

pub order_above : (x y : ℕ) → y < x → reading_order (Some x) (Some y) ≡ Some Greater
order_above x y l = ap Some (ap₂ order_by (le-ltb x y (omega arith)) (lt-ltb y x l))

pub order_equal : (x y : ℕ) → x ≤ y → y ≤ x → reading_order (Some x) (Some y) ≡ Some Equal
order_equal x y l k = ap Some (ap₂ order_by (le-ltb x y k) (le-ltb y x l))

-- ---- by the words

module _ {v w : ℕ} (mv : MeasuredWord v) (mw : MeasuredWord w) where
  pub words_lt : v < w → unpacked DIGITS v < unpacked DIGITS w
  words_lt l = unpacked_order DIGITS v w mv.fits mw.fits mv.rule mw.rule l

  pub words_le : v ≤ w → unpacked DIGITS v ≤ unpacked DIGITS w
  words_le l = go (dec_lt v w)
    where
      go : Dec (v < w) → unpacked DIGITS v ≤ unpacked DIGITS w
      go (yes k) = omega (arith, words_lt k)
      go (no k) = let e : v ≡ w = omega arith in rw e (omega arith)

-- two words that are measured readings
module _ (v w : ℕ) (mv : MeasuredWord v) (mw : MeasuredWord w) (nv : ¬ (v ≡ NOT_MEASURED)) (nw : ¬ (w ≡ NOT_MEASURED)) where
  both_say : reading_order (says v) (says w) ≡ reading_order (Some (unpacked DIGITS v)) (Some (unpacked DIGITS w))
  both_say = ap₂ reading_order (measured_says v nv) (measured_says w nw)

  -- the words compare as the numbers do
  pub words_compare : {o : Ordering} → o ≡ nat_cmp v w → reading_order (says v) (says w) ≡ Some o
  words_compare {o} e = both_say ∙ go o (ranked v w o e)
    where
      go : (o : Ordering) → MatchOrdering o (v < w) (v ≡ w) (w < v) → reading_order (Some (unpacked DIGITS v)) (Some (unpacked DIGITS w)) ≡ Some o
      go Less l = order_below (unpacked DIGITS v) (unpacked DIGITS w) (words_lt mv mw l)
      go Equal e = order_equal (unpacked DIGITS v) (unpacked DIGITS w) (words_le mv mw (omega arith)) (words_le mw mv (omega arith))
      go Greater l = order_above (unpacked DIGITS v) (unpacked DIGITS w) (words_lt mw mv l)

-- ---- the answer for two words

pub compared_refused : {A : Type 0} (word limit : ℕ) (x : A) {r : Refusal} → Err r ≡ unless_bad_of (word ∷ limit ∷ []) x
    → Err r ≡ compared_of word limit
unfolding compared_of
compared_refused word limit x e = pair_refused word limit x (reading_order (says word) (says limit)) e

pub compared_is : (word limit : ℕ) → is_reading word ≡ true → is_reading limit ≡ true
    → compared_of word limit ≡ Ok (reading_order (says word) (says limit))
unfolding compared_of
compared_is word limit gw gl = pair_none word limit (reading_order (says word) (says limit)) gw gl
