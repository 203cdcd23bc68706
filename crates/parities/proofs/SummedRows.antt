-- Rows of parities: what is put where, what is added to what, and what a row says of a state.
use Rattle.parities.proofs.Prelude.{◌≡◌, refl, sym, ap, ap₂, ◌∙◌, subst, Bool, true, false, ◌⊎◌, inl, inr, List, ℕ, ◌+◌, ◌%◌, ◌^◌, ◌<◌, arith}
use Rattle.parities.proofs.Prelude.{ℕ_discrete, ones, length, get_or, set, replicate, length-set, get_or-replicate, get_or-set_same, get_or-set_other, ATOMS}
use Rattle.parities.proofs.Prelude.{digit, Has, Apart, apart, ◌∩◌, ◌∪◌, ◌∖◌, atom, AtMostOne, digit_lt, digit_zero, or_at, sub_at, has_dec, has_lt}
use Rattle.parities.proofs.Prelude.{has_cut, cut_left, cut_right, has_left, has_right, union_cases, has_atom, atom_only, has_none, some_atom, ext}
use Rattle.parities.proofs.Prelude.{empty, union_fits, without_fits, numbered_by, lacked_by, Completes, undecided, Narrows, SomeUp, State}
use Rattle.parities.proofs.Prelude.{narrows_when, narrows_trans, narrows_for, down_narrows, SatisfiesAll, lent, inputs, truth, FollowAll, odd, ◌△◌}
use Rattle.parities.proofs.Prelude.{ParityTable, SUM_ROWS, RowHolds, table_row, open_row, RowsHold, RowsGathered, BitPut, SameRows, Summed, Row}
use Rattle.states.proofs.HalfDecided.{undecided_up, undecided_intro}
use Rattle.parities.proofs.CountedWords.{count_none, count_apart, count_atom, digit_none}
use Rattle.parities.proofs.Parities.{odd_lt, odd_sum}
use Rattle.parities.proofs.ParityTables.{table_row_lem}

-- ---- bits

pub sum_is : (a b : ℕ) {x y r : ℕ} → x ≡ a ∖ b → y ≡ b ∖ a → r ≡ x ∪ y → r ≡ a △ b
unfolding ◌△◌
sum_is a b e f g = rw (g, e, f) refl

atom_off : (i j : ℕ) → ¬ (j ≡ i) → digit (atom i) j ≡ 0
atom_off i j n = digit_none (λ h. n (sym (atom_only i h)))

pub bit_one_put : (bits i : ℕ) {b x r : ℕ} → b < 2 → ¬ (b ≡ 0) → x ≡ atom i → r ≡ bits ∪ x → BitPut bits i b r
unfolding ◌∪◌
bit_one_put bits i {b} {x} {r} l n e f = record {
  here = ap (λ (w : ℕ). digit w i) is ∙ omega (arith, or_at bits (atom i) i, (has_atom i).bit, digit_lt bits i, l, n);
  others = λ j m. ap (λ (w : ℕ). digit w j) is ∙ omega (arith, or_at bits (atom i) j, atom_off i j m, digit_lt bits j);
}
  where
    is : r ≡ bits ∪ atom i
    is = f ∙ ap (λ (w : ℕ). bits ∪ w) e

pub bit_none_put : (bits i : ℕ) {b r : ℕ} → b ≡ 0 → r ≡ bits ∖ atom i → BitPut bits i b r
unfolding ◌∖◌
bit_none_put bits i {b} {r} none is = record {
  here = ap (λ (w : ℕ). digit w i) is ∙ omega (arith, sub_at bits (atom i) i, (has_atom i).bit, digit_lt bits i, none);
  others = λ j m. ap (λ (w : ℕ). digit w j) is ∙ omega (arith, sub_at bits (atom i) j, atom_off i j m, digit_lt bits j);
}

-- a bit as a number
pub bit_zero : (bits i : ℕ) {b : Bool} {x : ℕ} → x ≡ atom i → b ≡ apart bits x → b ≡ true → 0 ≡ digit bits i
bit_zero bits i e f g = sym (digit_none (lacked_by bits i e f g))

pub bit_one : (bits i : ℕ) {b : Bool} {x : ℕ} → x ≡ atom i → b ≡ apart bits x → b ≡ false → 1 ≡ digit bits i
bit_one bits i e f g = sym (numbered_by bits i e f g).bit

-- ---- rows that are gathered

-- a row without atoms says nothing
none_holds : (N : ℕ) → RowHolds 0 0 N
unfolding odd
none_holds N = record { parity = omega (arith, ap ones (empty (N ∩ 0) (λ i h. has_none (cut_right N 0 h))), count_none) }

pub rows_none : (N : ℕ) → RowsHold (replicate SUM_ROWS 0) 0 N
rows_none N = record { each = λ i l. rw (get_or-replicate {A = ℕ} SUM_ROWS i 0 0 l, digit_zero i) (none_holds N) }

pub gathered_refl : {K : ℕ → Type 0} {s : State} {words : List ℕ} {bits : ℕ} → RowsGathered K s words bits words bits
gathered_refl = record { same_length = refl; right = λ N k c h. h }

pub gathered_trans : {K : ℕ → Type 0} {s : State} {words words' words'' : List ℕ} {bits bits' bits'' : ℕ} → RowsGathered K s words bits words' bits'
    → RowsGathered K s words' bits' words'' bits'' → RowsGathered K s words bits words'' bits''
gathered_trans f g = record { same_length = g.same_length ∙ f.same_length; right = λ N k c h. g.right N k c (f.right N k c h) }

pub gathered_for : {K L : ℕ → Type 0} {s : State} {words words' : List ℕ} {bits bits' : ℕ} → ((N : ℕ) → L N → K N) → RowsGathered K s words bits words' bits'
    → RowsGathered L s words bits words' bits'
gathered_for f g = record { same_length = g.same_length; right = λ N l c h. g.right N (f N l) c h }

-- one row is written
pub row_put : {K : ℕ → Type 0} {s : State} {words : List ℕ} {bits t w b r : ℕ} → length words ≡ SUM_ROWS → t < SUM_ROWS
    → ((N : ℕ) → K N → Completes s N → RowHolds w b N) → BitPut bits t b r → RowsGathered K s words bits (set words t w) r
row_put {K} {s} {words} {bits} {t} {w} {b} {r} long l f put = record {
  same_length = length-set words t w;
  right = λ N k c h. record { each = λ i m. go N k c h i m (ℕ_discrete i t) };
}
  where
    go : (N : ℕ) → K N → Completes s N → RowsHold words bits N → (i : ℕ) → i < SUM_ROWS → Dec (i ≡ t) → RowHolds (get_or (set words t w) i 0) (digit r i) N
    go N k c h i m (yes q) = rw q (rw (get_or-set_same words t w 0 (omega (arith, long, l)), put.here) (f N k c))
    go N k c h i m (no n) = rw (get_or-set_other words t i w 0 n, put.others i n) (h.each i m)

-- ---- the rows of tables

pub row_is : (rules pilots : List ℕ) (t : ℕ) {x w y : ℕ} → x ≡ inputs rules t → w ≡ x △ get_or pilots t 0 → y ≡ truth rules t
    → record { word = w; bit = y % 2 } ≡ table_row rules pilots t
row_is rules pilots t e f g = ap₂ (λ (v b : ℕ). record { word = v; bit = b }) (f ∙ ap (λ (v : ℕ). v △ get_or pilots t 0) e) (ap (λ (v : ℕ). v % 2) g)

pub row_bit_small : (rules pilots : List ℕ) (t : ℕ) {r : Row} → r ≡ table_row rules pilots t → r.bit < 2
row_bit_small rules pilots t e = rw e (omega arith)

pub open_bit_small : (row : Row) (s : State) {r : Row} → r ≡ open_row row s → r.bit < 2
open_bit_small row s e = rw e (omega arith)

-- ---- rows that are summed

pub same_rows_refl : {words : List ℕ} {bits : ℕ} → SameRows words bits words bits
same_rows_refl = record { same_length = refl; there = λ N h. h; back = λ N h. h }

pub same_rows_trans : {words words' words'' : List ℕ} {bits bits' bits'' : ℕ} → SameRows words bits words' bits' → SameRows words' bits' words'' bits''
    → SameRows words bits words'' bits''
same_rows_trans f g = record {
  same_length = g.same_length ∙ f.same_length;
  there = λ N h. g.there N (f.there N h);
  back = λ N h. f.back N (g.back N h);
}

pub row_added : (words : List ℕ) (bits from to : ℕ) {w a b r : ℕ} → length words ≡ SUM_ROWS → from < SUM_ROWS → to < SUM_ROWS → ¬ (from ≡ to)
    → w ≡ get_or words to 0 △ get_or words from 0 → a ≡ digit bits to → b ≡ digit bits from → BitPut bits to ((a + b) % 2) r
    → SameRows words bits (set words to w) r
row_added words bits from to {w} {a} {b} {r} long k l apart e f g put = record {
  same_length = length-set words to w;
  there = λ N h. record { each = λ i m. go N h i m (ℕ_discrete i to) };
  back = λ N h. record { each = λ i m. come N h i m (ℕ_discrete i to) };
}
  where
    here : get_or (set words to w) to 0 ≡ w
    here = get_or-set_same words to w 0 (omega (arith, long, l))

    sums : (N : ℕ) → odd (N ∩ w) ≡ (odd (N ∩ get_or words to 0) + odd (N ∩ get_or words from 0)) % 2
    sums N = ap (λ (x : ℕ). odd (N ∩ x)) e ∙ odd_sum N (get_or words to 0) (get_or words from 0)

    go : (N : ℕ) → RowsHold words bits N → (i : ℕ) → i < SUM_ROWS → Dec (i ≡ to) → RowHolds (get_or (set words to w) i 0) (digit r i) N
    go N h i m (yes q) =
        rw q (rw here (record { parity = omega (arith, sums N, (h.each to l).parity, (h.each from k).parity, f, g, put.here) }))
    go N h i m (no n) = rw (get_or-set_other words to i w 0 n, put.others i n) (h.each i m)

    same : (N : ℕ) → RowsHold (set words to w) r N → (i : ℕ) → i < SUM_ROWS → ¬ (i ≡ to) → RowHolds (get_or words i 0) (digit bits i) N
    same N h i m n = rw (get_or-set_other words to i w 0 n, put.others i n) at (h.each i m)

    come : (N : ℕ) → RowsHold (set words to w) r N → (i : ℕ) → i < SUM_ROWS → Dec (i ≡ to) → RowHolds (get_or words i 0) (digit bits i) N
    come N h i m (yes q) = rw q (record {
      parity =
          omega (
            arith,
            sums N,
            (rw here at (h.each to l)).parity,
            (same N h from k apart).parity,
            f,
            g,
            put.here,
            odd_lt (N ∩ get_or words to 0),
            digit_lt bits to,
          );
    })
    come N h i m (no n) = same N h i m n

-- ---- a row at a state

module _ (s : State) (word : ℕ) (fits : word < 2 ^ ATOMS) (N : ℕ) (c : Completes s N) where
  abbrev left : ℕ
  left = undecided s.up s.dropped ∩ word

  -- the atoms of the row that are up, and of those that are open the ones that N has
  row_parts : N ∩ word ≡ (s.up ∩ word) ∪ (N ∩ left)
  row_parts =
      ext (N ∩ word) ((s.up ∩ word) ∪ (N ∩ left)) (λ i h. into i (cut_left N word h) (cut_right N word h) (has_dec s.up i))
      (λ i h. from i (union_cases (s.up ∩ word) (N ∩ left) h))
    where
      into : (i : ℕ) → Has N i → Has word i → Dec (Has s.up i) → Has ((s.up ∩ word) ∪ (N ∩ left)) i
      into i n w (yes u) = has_left (s.up ∩ word) (N ∩ left) (has_cut s.up word u w)
      into i n w (no u) =
          has_right (s.up ∩ word) (N ∩ left)
          (has_cut N left n
          (has_cut (undecided s.up s.dropped) word
          (undecided_intro s.up s.dropped i (has_lt word ATOMS fits w) u (λ d. c.no_dropped.none i d n)) w))

      from : (i : ℕ) → Has (s.up ∩ word) i ⊎ Has (N ∩ left) i → Has (N ∩ word) i
      from i (inl h) = has_cut N word (c.has_up.each i (cut_left s.up word h)) (cut_right s.up word h)
      from i (inr h) = has_cut N word (cut_left N left h) (cut_right (undecided s.up s.dropped) word (cut_right N left h))

  row_ones : ones (N ∩ word) ≡ ones (s.up ∩ word) + ones (N ∩ left)
  row_ones = ap ones row_parts ∙ count_apart (s.up ∩ word) (N ∩ left) parts
    where
      parts : Apart (s.up ∩ word) (N ∩ left)
      parts = record {
        none = λ i p q. undecided_up s.up s.dropped (cut_left (undecided s.up s.dropped) word (cut_right N left q)) (cut_left s.up word p);
      }

  -- decided atoms are taken out of a row, and those that are up turn its bit
  pub row_opened : {bit : ℕ} → RowHolds word bit N
      → RowHolds (open_row (record { word = word; bit = bit }) s).word (open_row (record { word = word; bit = bit }) s).bit N
  unfolding odd
  row_opened h = record { parity = omega (arith, h.parity, row_ones) }

pub open_is : (row : Row) (s : State) {x w u n : ℕ} → x ≡ undecided s.up s.dropped → w ≡ x ∩ row.word → u ≡ s.up ∩ row.word → n ≡ ones u
    → record { word = w; bit = (n + row.bit) % 2 } ≡ open_row row s
open_is row s e f g h =
    ap₂ (λ (v b : ℕ). record { word = v; bit = b }) (f ∙ ap (λ (v : ℕ). v ∩ row.word) e)
    (ap (λ (k : ℕ). (k + row.bit) % 2) (h ∙ ap ones g))

sum_fits : (a b : ℕ) → a < 2 ^ ATOMS → b < 2 ^ ATOMS → a △ b < 2 ^ ATOMS
unfolding ◌△◌
sum_fits a b l m = union_fits (a ∖ b) (b ∖ a) ATOMS (without_fits a b ATOMS l) (without_fits b a ATOMS m)

-- the row of a parity table at a state is right where its pilot follows it
pub gathered_row : {rules pilots : List ℕ} {t : ℕ} {s : State} {a b : Row} → ParityTable rules pilots t → inputs rules t < 2 ^ ATOMS
    → get_or pilots t 0 < 2 ^ ATOMS → a ≡ table_row rules pilots t → b ≡ open_row a s
    → (N : ℕ) → FollowAll rules pilots N → Completes s N → RowHolds b.word b.bit N
gathered_row {rules} {pilots} {t} {s} p l m e f N k c =
    rw (f, e) (row_opened s (inputs rules t △ get_or pilots t 0) (sum_fits (inputs rules t) (get_or pilots t 0) l m) N c (table_row_lem p l k))

-- ---- what a row says

module _ {word N : ℕ} where
  -- an odd number of its atoms is up: one is
  pub row_some : {bit : ℕ} → bit ≡ 1 → RowHolds word bit N → SomeUp word N
  unfolding odd
  row_some {bit} e h = go (some_atom (N ∩ word) (λ z. absurd (omega (arith, h.parity, ap ones z, count_none, e))))
    where
      go : ((i : ℕ) × Has (N ∩ word) i) → SomeUp word N
      go k = record { atom = k.0; in_word = cut_right N word k.1; is_up = cut_left N word k.1 }

  -- an even number of them is, where there is one at most: none is
  pub row_none : {bit : ℕ} → bit < 2 → ¬ (bit ≡ 1) → AtMostOne word → RowHolds word bit N → Apart word N
  unfolding odd
  row_none {bit} l n one h = record { none = λ i p q. omega (arith, h.parity, ap ones (alone i p q) ∙ count_atom i, l, n) }
    where
      alone : (i : ℕ) → Has word i → Has N i → N ∩ word ≡ atom i
      alone i p q =
          ext (N ∩ word) (atom i) (λ j k. subst (λ (x : ℕ). Has (atom i) x) (one.same i j p (cut_right N word k)) (has_atom i))
          (λ j k. subst (λ (x : ℕ). Has (N ∩ word) x) (atom_only i k) (has_cut N word q p))

-- the state with an atom dropped that is alone
pub row_drops : (s : State) {word bit dropped : ℕ} → bit < 2 → ¬ (bit ≡ 1) → AtMostOne word → dropped ≡ s.dropped ∪ word
    → Narrows (RowHolds word bit) s (record { up = s.up; dropped = dropped })
row_drops s {word} l n one e = rw e (down_narrows s word (λ N h c. row_none l n one h))

-- the state after one more row
pub rows_more : {words : List ℕ} {bits : ℕ} {s t u : State} (i : ℕ) {w b : ℕ} → i < SUM_ROWS → w ≡ get_or words i 0 → b ≡ digit bits i
    → Narrows (RowsHold words bits) s t → Narrows (RowHolds w b) t u → Narrows (RowsHold words bits) s u
rows_more i l e f m n = narrows_trans m (narrows_for (λ N h. rw (e, f) (h.each i l)) n)

-- and after all, where they are sums of rows that are right
pub rows_narrow : {rules pilots : List ℕ} {which : ℕ} {told words sums : List ℕ} {bits bits' bits'' : ℕ} {s t : State}
    → RowsGathered (SatisfiesAll (lent rules) which) s (replicate SUM_ROWS 0) 0 told bits → RowsGathered (FollowAll rules pilots) s told bits words bits'
    → SameRows words bits' sums bits'' → Narrows (RowsHold sums bits'') s t → Narrows (Summed rules pilots which) s t
rows_narrow f g same n =
    narrows_when (λ N k c. same.there N (g.right N k.follow c (f.right N k.satisfies c (rows_none N)))) n
