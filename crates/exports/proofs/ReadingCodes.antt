-- Readings for hosts: what is asked by a number, the two words of what was found, and that no answer is taken for a refusal.
use Rattle.exports.proofs.Prelude.{◌≡◌, refl, sym, ap, ◌∙◌, subst, List, ◌⊎◌, inl, inr, ℕ, ◌+◌, ◌*◌, ◌≤◌, ◌<◌, min, arith, length, eq-eqb, ne_eqb}
use Rattle.exports.proofs.Prelude.{CODE_STEP, WIDEST_SPOT, reading_asked, refused_code, said_code, number_code, reading_code}
use Rattle.exports.proofs.Prelude.{sum_code, added_code, order_code, compared_code, found_code, largest_code, largest_words, NumberHanded, ReadingHanded}
use Rattle.exports.proofs.Prelude.{SumHanded, CompareHanded, LargestHanded}
use Rattle.std.specs.Prelude.{Option, Some, None, Result, Ok, Err}
use Rattle.std.specs.declared.cmp.Ordering.{Ordering}
use Rattle.std.specs.declared.cmp.Ordering.TheVariants.{Less, Equal, Greater}
use Rattle.std.specs.Option.{unwrap_or}
use Rattle.packed_decimal.specs.PackedReading.{MODULUS, NOT_MEASURED}
use Rattle.packed_decimal.specs.ReadingRefusals.{refusal_number, refusal_spot}
use Rattle.packed_decimal.specs.ReadingAnswers.{number_of, reading_of, added_of}
use Rattle.packed_decimal.specs.Largest.{READING_BYTES, readings, largest_in}
use Rattle.packed_decimal.specs.ReadingPromises.{SaysNumber, Numbered, Repacked, ReadingsAdded, HeldAgainst, LargestSought}
use Rattle.packed_decimal.specs.declared.refusal.Refusal.{Refusal}
use Rattle.packed_decimal.specs.declared.refusal.Refusal.TheVariants.{BadReading, LargeNumber}
use Rattle.packed_decimal.specs.declared.sum.Sum.{Sum}
use Rattle.packed_decimal.specs.declared.largest.Placed.{Placed}
use Rattle.packed_decimal.proofs.Conversion.{said_is, word_fits}
use Rattle.packed_decimal.proofs.Sums.{added_fits}
use Rattle.packed_decimal.proofs.LargestMeaning.{refused_within}

-- ---- what is asked

pub asked_unmeasured : (number : ℕ) → number ≡ NOT_MEASURED → reading_asked number ≡ None
unfolding reading_asked
asked_unmeasured number e = rw (eq-eqb number NOT_MEASURED e, reading_asked) refl

pub asked_measured : (number : ℕ) → ¬ (number ≡ NOT_MEASURED) → reading_asked number ≡ Some number
unfolding reading_asked
asked_measured number n = rw (ne_eqb number NOT_MEASURED n, reading_asked) refl

-- ---- what is said

pub said_or_none : (said : Option ℕ) → unwrap_or said NOT_MEASURED ≡ said_code said
said_or_none (Some x) = refl
said_or_none None = refl

-- ---- from what the functions promise to what their codes tell

pub number_handed : {reading r : ℕ} {answer : Result (Option ℕ) Refusal} → Numbered reading answer → r ≡ number_code answer → NumberHanded reading r
number_handed p e = record {
  code_is = e ∙ ap number_code p.is;
  refused = λ h. e ∙ ap number_code (p.bad h);
  unmeasured = λ u. e ∙ ap number_code (p.unmeasured u);
  measured = λ x s. e ∙ ap number_code (p.measured x s);
}

pub reading_handed : {number r : ℕ} {said : Option ℕ} {answer : Result ℕ Refusal} → Repacked said answer → said ≡ reading_asked number → r ≡ reading_code answer
    → ReadingHanded number r
reading_handed {number} {r} {said} {answer} p q e = record {
  code_is = e ∙ ap reading_code (p.is ∙ ap reading_of q);
  unmeasured = λ u. e ∙ ap reading_code (p.unmeasured (q ∙ asked_unmeasured number u));
  refused = λ n l. e ∙ ap reading_code (p.large number (q ∙ asked_measured number n) l);
  measured = λ l.
      let m = p.measured number (q ∙ asked_measured number (λ u. omega arith)) l in
      subst (λ (w : ℕ). SaysNumber w number) (sym (e ∙ ap reading_code m.1)) m.2;
}

pub sum_handed : {a b r : ℕ} {answer : Result Sum Refusal} → ReadingsAdded a b answer → r ≡ added_code answer → SumHanded a b r
sum_handed p e = record {
  code_is = e ∙ ap added_code p.is;
  refuses = record { first = λ h. e ∙ ap added_code (p.refuses.first h); second = λ g h. e ∙ ap added_code (p.refuses.second g h) };
  unmeasured = λ g h u. e ∙ ap added_code (p.unmeasured g h u);
  measured = λ x y s t. let m = p.measured x y s t in (m.0, e ∙ ap added_code m.1, m.2);
}

pub compare_handed : {reading limit r : ℕ} {answer : Result (Option Ordering) Refusal} → HeldAgainst reading limit answer → r ≡ compared_code answer
    → CompareHanded reading limit r
compare_handed p e = record {
  code_is = e ∙ ap compared_code p.is;
  refuses = record { first = λ h. e ∙ ap compared_code (p.refuses.first h); second = λ g h. e ∙ ap compared_code (p.refuses.second g h) };
  unmeasured = λ g h u. e ∙ ap compared_code (p.unmeasured g h u);
  below = λ x y s t l. e ∙ ap compared_code (p.below x y s t l);
  equal = λ x y s t q. e ∙ ap compared_code (p.equal x y s t q);
  above = λ x y s t l. e ∙ ap compared_code (p.above x y s t l);
}

pub largest_handed : {bytes found found' : List ℕ} {r : ℕ} {answer : Result (Option Placed) Refusal} → LargestSought bytes answer → r ≡ largest_code answer
    → found' ≡ largest_words answer found → LargestHanded bytes found found' r
largest_handed {bytes} {found} p e w = record {
  code_is = e ∙ ap largest_code p.is;
  found_is = w ∙ words p.is;
  refused = λ i l least. (e ∙ ap largest_code (p.refused i l least), w ∙ words (p.refused i l least));
  sought = λ none. let f = p.found none in (f.0, f.2, e ∙ ap largest_code f.1, w ∙ words f.1);
}
  where
    words : {l m : Result (Option Placed) Refusal} → l ≡ m → largest_words l found ≡ largest_words m found
    words q = ap (λ (l : Result (Option Placed) Refusal). largest_words l found) q

-- ---- refusals and answers

pub number_fits : (r : Refusal) → refusal_number r < CODE_STEP
number_fits (BadReading place) = omega arith
number_fits LargeNumber = omega arith

-- a refusal's code is above every answer of two readings' worth: 20 is above any carry
refused_above : (r : Refusal) → CODE_STEP * 2 ≤ refused_code r
refused_above (BadReading place) = omega arith
refused_above LargeNumber = omega arith

-- no answer is taken for a refusal
module _ (r : Refusal) where
  pub said_no_refusal : (word : ℕ) (said : Option ℕ) → number_of word ≡ Ok said → said_code said < refused_code r
  said_no_refusal word said e = go (said_is word said e)
    where
      go : (said ≡ None) ⊎ ((x : ℕ) × (x < MODULUS) × (said ≡ Some x)) → said_code said < refused_code r
      go (inl u) = rw u (omega (arith, refused_above r))
      go (inr m) = rw m.2 (omega (arith, m.1, refused_above r))

  pub word_no_refusal : (number word : ℕ) → reading_of (reading_asked number) ≡ Ok word → word < refused_code r
  word_no_refusal number word e = omega (arith, word_fits (reading_asked number) word e, refused_above r)

  pub sum_no_refusal : (a b : ℕ) (s : Sum) → added_of a b ≡ Ok s → sum_code s < refused_code r
  sum_no_refusal a b s e = let fits = added_fits a b s e in omega (arith, fits.carry_fits, fits.reading_fits, refused_above r)

  pub order_no_refusal : (order : Option Ordering) → order_code order < refused_code r
  order_no_refusal (Some Less) = omega (arith, refused_above r)
  order_no_refusal (Some Equal) = omega (arith, refused_above r)
  order_no_refusal (Some Greater) = omega (arith, refused_above r)
  order_no_refusal None = omega (arith, refused_above r)

  pub found_no_refusal : (what : Option Placed) → found_code what < refused_code r
  found_no_refusal (Some largest) = omega (arith, refused_above r)
  found_no_refusal None = omega (arith, refused_above r)

-- the code has the very spot of a refused run, if the run has no more readings than 16 bits count
pub code_exact : (bytes : List ℕ) (r : Refusal) → largest_in bytes ≡ Err r → length bytes ≤ READING_BYTES * CODE_STEP
    → refused_code r ≡ CODE_STEP * refusal_number r + refusal_spot r
code_exact bytes r e l =
    let within : refusal_spot r < readings bytes = refused_within bytes r e in
    let least : min WIDEST_SPOT (refusal_spot r) ≡ refusal_spot r = omega arith in
    ap (λ (s : ℕ). CODE_STEP * refusal_number r + s) least
