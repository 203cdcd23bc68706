-- Counts copied word by word, from the front, as far as there is room.
use Rattle.exports.proofs.Prelude.{◌≡◌, refl, sym, ap, ap₂, ◌∙◌, List, ◌++◌, ℕ, suc, ◌+◌, ◌≤◌, ◌<◌, arith, add-one, length, take, drop, get_or, set}
use Rattle.exports.proofs.Prelude.{length-set, drop_of_length-le, take_all, take-suc, drop-cons, append_snoc, set_at, length-take-le, copied, min, dec_lt}

-- of n words the first i are copied
pub record Copying (n : ℕ) (from before after : List ℕ) (i : ℕ) : Type 0 where
  pub all : length from ≡ n
  pub same_length : length after ≡ length before
  pub read : i ≤ n
  pub room : i ≤ length before
  pub so_far : after ≡ take i from ++ drop i before

pub copying_start : {n : ℕ} {from counts : List ℕ} → length from ≡ n → Copying n from counts counts 0
copying_start e = record { all = e; same_length = refl; read = omega arith; room = omega arith; so_far = refl }

one_more : (from counts : List ℕ) (i : ℕ) → i < length from → i < length counts
    → set (take i from ++ drop i counts) i (get_or from i 0) ≡ take (suc i) from ++ drop (suc i) counts
one_more from counts i k l =
    ap (λ (r : List ℕ). set (take i from ++ r) i (get_or from i 0)) (drop-cons counts i 0 l)
    ∙ set_at (take i from) (get_or counts i 0) (drop (suc i) counts) (get_or from i 0) i (length-take-le i from (omega arith))
    ∙ sym (append_snoc (take i from) (get_or from i 0) (drop (suc i) counts))
    ∙ ap (λ (r : List ℕ). r ++ drop (suc i) counts) (sym (take-suc from i 0 k))

pub copying_more : {n i : ℕ} {from before after : List ℕ} → Copying n from before after i → i < n → i < length after
    → Copying n from before (set after i (get_or from i 0)) (i + 1)
copying_more {n} {i} {from} {before} {after} c k l = record {
  all = c.all;
  same_length = length-set after i (get_or from i 0) ∙ c.same_length;
  read = omega arith;
  room = omega (arith, c.same_length);
  so_far =
      ap (λ (r : List ℕ). set r i (get_or from i 0)) c.so_far
      ∙ one_more from before i (omega (arith, c.all)) (omega (arith, c.same_length))
      ∙ ap (λ (j : ℕ). take j from ++ drop j before) (sym (add-one i));
}

-- all are copied, or there is no more room
copying_all : {n i : ℕ} {from before after : List ℕ} → Copying n from before after i → n ≤ i → after ≡ copied from before
unfolding copied
copying_all {n} {i} {from} {before} {after} c l =
    let e : i ≡ length from = omega (arith, c.read, c.all) in
    c.so_far
    ∙ ap₂ ◌++◌ (take_all i from (omega (arith, c.all)) ∙ sym (take_all (length before) from (omega (arith, c.room, c.all))))
    (ap (λ (j : ℕ). drop j before) e)

copying_full : {n i : ℕ} {from before after : List ℕ} → Copying n from before after i → length after ≤ i
    → after ≡ copied from before
unfolding copied
copying_full {n} {i} {from} {before} {after} c l =
    let e : i ≡ length before = omega (arith, c.room, c.same_length) in
    c.so_far
    ∙ ap₂ ◌++◌ (ap (λ (j : ℕ). take j from) e)
    (drop_of_length-le before {i = i} (omega (arith, c.same_length))
    ∙ sym (drop_of_length-le before {i = length from} (omega (arith, c.read, c.all, c.same_length))))

pub copying_end : {n i : ℕ} {from before after : List ℕ} → Copying n from before after i → min n (length after) ≤ i → after ≡ copied from before
copying_end {n} {i} {from} {before} {after} c l = go (dec_lt i n)
  where
    go : Dec (i < n) → after ≡ copied from before
    go (yes k) = copying_full c (omega arith)
    go (no k) = copying_all c (omega arith)

-- ---- all at once

-- the front of the words written over the front of the lent ones
pub front_copied : (words found : List ℕ) {part : List ℕ} {n : ℕ} → n ≡ min (length found) (length words) → part ≡ take n words
    → part ++ drop n found ≡ copied words found
unfolding copied
front_copied words found {part} {n} e p = ap (λ (f : List ℕ). f ++ drop n found) p ∙ go (dec_lt (length found) (length words))
  where
    go : Dec (length found < length words) → take n words ++ drop n found ≡ take (length found) words ++ drop (length words) found
    go (yes l) =
        let same : n ≡ length found = omega arith in
        ap₂ ◌++◌ (ap (λ (k : ℕ). take k words) same)
        (drop_of_length-le found {i = n} (omega arith) ∙ sym (drop_of_length-le found {i = length words} (omega arith)))
    go (no l) =
        let same : n ≡ length words = omega arith in
        ap₂ ◌++◌ (take_all n words (omega arith) ∙ sym (take_all (length found) words (omega arith))) (ap (λ (k : ℕ). drop k found) same)
