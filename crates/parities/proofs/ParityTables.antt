-- Contact tables that are parities: what such a table says, what that makes of its inputs and its pilot, and which tables are such.
use Rattle.parities.proofs.Prelude.{◌≡◌, refl, sym, ap, ◌∙◌, subst, Bool, true, false, true≢false, false≢true, List, ◌⊎◌, inl, inr, ℕ, zero, suc, ◌+◌}
use Rattle.parities.proofs.Prelude.{◌-◌, ◌%◌, ◌^◌, ◌<◌, ◌≤◌, arith, ℕ_discrete, ones, eqb, length, get_or, pow_mono, eqb-true, ATOMS, digit, Has, has}
use Rattle.parities.proofs.Prelude.{◌⊆◌, Apart, ◌∩◌, ◌∪◌, ◌∖◌, atom, below, Lowest, Decides, all_below, union_in, single_if, Collects, digit_lt}
use Rattle.parities.proofs.Prelude.{digit_low, and_at, sub_at, has_dec, has_cut, cut_left, cut_right, has_left, has_right, union_cases, has_without}
use Rattle.parities.proofs.Prelude.{atom_only, has_none, has_below, ext, lt_of_has, decides_has, cut_fits, cut_of_apart, union_none_left, subset_refl}
use Rattle.parities.proofs.Prelude.{collects_iff, collects_has, collects_union_in, taken_within, Gathers, gathers_next, gathers_end, single_if_at}
use Rattle.parities.proofs.Prelude.{single_if_has, taken_lent, decides, decides_iff, decides_equal, decided_true, decided_false, MAX_TABLES}
use Rattle.parities.proofs.Prelude.{MAX_INPUTS, FIRST_RULE, place, row, table_answer, inputs, truth, FollowsWords, FollowAll, odd, ODD_ROWS, odd_truth}
use Rattle.parities.proofs.Prelude.{even_truth, Parity, ParityTable, ParityAtom, RowHolds, table_row}
use Rattle.atoms.proofs.Bounded.{all-at, union_at}
use Rattle.contact_tables.proofs.Places.{place_input, place_other, place_lt}
use Rattle.contact_tables.proofs.RowBits.{row_lt, row_bit}
use Rattle.parities.proofs.CountedWords.{digit_none, count_none, count_apart, count_atom, cut_swap, below_more, below_same, below_none, whole_word}
use Rattle.parities.proofs.Parities.{odd_lt, odd_sum}

-- ---- the bits of a row

-- the place behind all inputs is their count
place_count : (w n : ℕ) → place w n ≡ ones (w ∩ below n)
unfolding place ones
place_count w zero = rw (below_none w) refl
place_count w (suc n) = go (has_dec w n) (place_count w n)
  where
    go : Dec (Has w n) → place w n ≡ ones (w ∩ below n) → place w (suc n) ≡ ones (w ∩ below (suc n))
    go (yes h) e = omega (arith, place_input w n h, below_more w n h)
    go (no h) e = omega (arith, place_other w n h, ap ones (below_same w n h))

module _ (inputs w : ℕ) (within : w ⊆ inputs) where
  abbrev placed : ℕ → ℕ
  placed n = union_in n w (λ a. atom (place inputs a))

  -- as many places as inputs
  placed_count : (n : ℕ) → ones (placed n) ≡ ones (w ∩ below n)
  unfolding union_in ones
  placed_count zero = rw (below_none w) refl
  placed_count (suc n) = go (has w n) refl (placed_count n)
    where
      new : Has w n → Apart (placed n) (atom (place inputs n))
      new h = record {
        none = λ i p q.
            let u = union_at n w (λ a. atom (place inputs a)) i p in
            let l = place_lt inputs u.0 n (within.each u.0 u.2) u.1 in
            let e = atom_only (place inputs u.0) u.3 in
            let f = atom_only (place inputs n) q in
            omega arith;
      }

      go : (b : Bool) → has w n ≡ b → ones (placed n) ≡ ones (w ∩ below n)
          → ones (elim b [ true ↦ placed n ∪ atom (place inputs n) | false ↦ placed n ]) ≡ ones (w ∩ below (suc n))
      go true e f =
          let h = (decides_has w n).yes e in
          omega (arith, count_apart (placed n) (atom (place inputs n)) (new h), count_atom (place inputs n), below_more w n h, f)
      go false e f = f ∙ ap ones (sym (below_same w n ((decides_has w n).no e)))

module _ (inputs N : ℕ) (fits : inputs < 2 ^ ATOMS) (few : ones inputs ≤ MAX_INPUTS) where
  -- an input's place is below the count of the inputs
  place_few : (a : ℕ) → a < ATOMS → Has inputs a → place inputs a < ones inputs
  place_few a l h = omega (arith, place_lt inputs a ATOMS h l, place_count inputs ATOMS, ap ones (whole_word inputs fits))

  row_places : row inputs N ≡ union_in ATOMS (inputs ∩ N) (λ a. atom (place inputs a))
  unfolding row
  row_places =
      ext (all ∩ below MAX_INPUTS) all (λ k h. cut_left all (below MAX_INPUTS) h)
      (λ k h.
      let u = union_at ATOMS (inputs ∩ N) (λ a. atom (place inputs a)) k h in
      let e : place inputs u.0 ≡ k = atom_only (place inputs u.0) u.3 in
      let l = place_few u.0 u.1 (cut_left inputs N u.2) in
      has_cut all (below MAX_INPUTS) h (has_below MAX_INPUTS k (omega arith)))
    where
      all : ℕ
      all = union_in ATOMS (inputs ∩ N) (λ a. atom (place inputs a))

  -- a row has as many bits as inputs are up
  row_count : ones (row inputs N) ≡ ones (inputs ∩ N)
  row_count =
      ap ones row_places ∙ placed_count inputs (inputs ∩ N) (record { each = λ i h. cut_left inputs N h }) ATOMS
      ∙ ap ones (whole_word (inputs ∩ N) (cut_fits inputs N ATOMS fits))

  -- and is one of those that the inputs have
  row_few : row inputs N < 2 ^ ones inputs
  row_few =
      lt_of_has (row inputs N) (ones inputs)
      (λ k h.
      let u = ((row_bit inputs N k).0 h).1 in
      let l = place_few u.at u.at_lt u.input in
      let e = u.placed in
      omega arith)

-- bit j of the constant is the parity of j
odd_row : (j : ℕ) → j < 64 → digit ODD_ROWS j ≡ odd j
unfolding all_below odd ones
odd_row j l = eqb-true (digit ODD_ROWS j) (odd j) (all-at 64 (λ (k : ℕ). eqb (digit ODD_ROWS k) (odd k)) refl j l)

-- with no input up the number is even
none_odd : ¬ Has ODD_ROWS 0
none_odd h = let e : ◌≡◌ {A = ℕ} 0 1 = h.bit in omega arith

module _ (inputs N : ℕ) (fits : inputs < 2 ^ ATOMS) (few : ones inputs ≤ MAX_INPUTS) where
  row_odd : digit ODD_ROWS (row inputs N) ≡ odd (inputs ∩ N)
  unfolding odd
  row_odd = odd_row (row inputs N) (row_lt inputs N) ∙ ap (λ (x : ℕ). x % 2) (row_count inputs N fits few)

  in_rows : digit (below (2 ^ ones inputs)) (row inputs N) ≡ 1
  in_rows = (has_below (2 ^ ones inputs) (row inputs N) (row_few inputs N fits few)).bit

  odd_answer : digit (odd_truth (ones inputs)) (row inputs N) ≡ odd (inputs ∩ N)
  unfolding ◌∩◌
  odd_answer =
      let l = digit_lt ODD_ROWS (row inputs N) in
      omega (arith, and_at ODD_ROWS (below (2 ^ ones inputs)) (row inputs N), row_odd, in_rows)

  odd_none : odd_truth (ones inputs) % 2 ≡ 0
  odd_none = sym (digit_low (odd_truth (ones inputs))) ∙ digit_none (λ h. none_odd (cut_left ODD_ROWS (below (2 ^ ones inputs)) h))

  even_answer : digit (even_truth (ones inputs)) (row inputs N) ≡ 1 - odd (inputs ∩ N)
  unfolding ◌∖◌
  even_answer =
      let l = digit_lt ODD_ROWS (row inputs N) in
      omega (arith, sub_at (below (2 ^ ones inputs)) ODD_ROWS (row inputs N), row_odd, in_rows)

  even_none : even_truth (ones inputs) % 2 ≡ 1
  even_none =
      sym (digit_low (even_truth (ones inputs)))
      ∙ (has_without (below (2 ^ ones inputs)) ODD_ROWS (has_below (2 ^ ones inputs) 0 (omega (arith, row_few inputs N fits few))) none_odd).bit

  same : {d o b : ℕ} → o < 2 → d ≡ o → b ≡ 0 → d ≡ (o + b) % 2
  same l e f = omega (arith, l, e, f)

  turned : {d o b : ℕ} → o < 2 → d ≡ 1 - o → b ≡ 1 → d ≡ (o + b) % 2
  turned l e f = omega (arith, l, e, f)

  -- a parity table says whether an odd number of its inputs is up; where it is true with none up, whether an even number is
  pub parity_answer : (truth : ℕ) → Parity inputs truth → digit truth (row inputs N) ≡ (odd (inputs ∩ N) + truth % 2) % 2
  parity_answer truth p = go p.word
    where
      go : (truth ≡ odd_truth (ones inputs)) ⊎ (truth ≡ even_truth (ones inputs)) → digit truth (row inputs N) ≡ (odd (inputs ∩ N) + truth % 2) % 2
      go (inl e) = rw e (same (odd_lt (inputs ∩ N)) odd_answer odd_none)
      go (inr e) = rw e (turned (odd_lt (inputs ∩ N)) even_answer even_none)

-- ---- the row of a table with its pilot

-- a pilot that follows is up exactly where the table is true
pilot_parity : {inputs truth w N : ℕ} → FollowsWords inputs truth w N → ones w ≡ 1 → odd (N ∩ w) ≡ digit truth (row inputs N)
unfolding odd table_answer
pilot_parity {inputs} {truth} {w} {N} f one = go (has_dec truth (row inputs N))
  where
    whole : w ⊆ N → N ∩ w ≡ w
    whole h = ext (N ∩ w) w (λ i p. cut_right N w p) (λ i p. has_cut N w (h.each i p) p)

    go : Dec (Has truth (row inputs N)) → ones (N ∩ w) % 2 ≡ digit truth (row inputs N)
    go (yes h) = omega (arith, ap ones (whole (f.when_true (decided_true (decides_has truth (row inputs N)) h))), one, h.bit)
    go (no h) =
        omega (
          arith,
          ap ones (cut_swap N w ∙ cut_of_apart (f.when_false (decided_false (decides_has truth (row inputs N)) h))),
          count_none,
          digit_none h,
        )

-- "its inputs and its pilot have an odd (or even) number up"
pub table_row_lem : {rules pilots : List ℕ} {t N : ℕ} → ParityTable rules pilots t → inputs rules t < 2 ^ ATOMS → FollowAll rules pilots N
    → RowHolds (table_row rules pilots t).word (table_row rules pilots t).bit N
table_row_lem {rules} {pilots} {t} {N} p fits f = record {
  parity =
      odd_sum N (inputs rules t) (get_or pilots t 0)
      ∙ omega (
        arith,
        ap odd (cut_swap N (inputs rules t)),
        pilot_parity (f.each t p.number) p.piloted,
        parity_answer (inputs rules t) N fits p.parity.few (truth rules t) p.parity,
        odd_lt (inputs rules t ∩ N),
      );
}

-- ---- the tests

-- as many rows as a word has bits
pub rows_fit : (n : ℕ) {x : ℕ} → n ≤ MAX_INPUTS → x ≡ atom n → x ≤ ATOMS
unfolding atom
rows_fit n l e = omega (arith, e, pow_mono l)

module _ (inputs truth : ℕ) {n one rows : ℕ} (c : n ≡ ones inputs) (s : one ≡ atom n) (f : rows ≡ below one) where
  row_words : rows ≡ below (2 ^ ones inputs)
  unfolding atom
  row_words = f ∙ ap below (s ∙ ap (λ (k : ℕ). 2 ^ k) c)

  pub too_many : MAX_INPUTS < n → Decides (Parity inputs truth) false
  too_many l = record { yes = λ e. absurd (false≢true e); no = λ e p. omega (arith, p.few, c, l) }

  pub is_odd : n ≤ MAX_INPUTS → {x : ℕ} → x ≡ ODD_ROWS ∩ rows → truth ≡ x → Decides (Parity inputs truth) true
  is_odd l e g = record {
    yes = λ t. record { few = omega (arith, c, l); word = inl (g ∙ e ∙ ap (λ (w : ℕ). ODD_ROWS ∩ w) row_words) };
    no = λ t. absurd (true≢false t);
  }

  pub may_be_even : n ≤ MAX_INPUTS → {x y : ℕ} {b : Bool} → x ≡ ODD_ROWS ∩ rows → ¬ (truth ≡ x) → y ≡ rows ∖ ODD_ROWS → b ≡ eqb truth y
      → Decides (Parity inputs truth) b
  may_be_even l {x} {y} {b} e g h t = decides b (λ q. even (eqb-true truth y (sym t ∙ q))) (λ p. t ∙ decided_true (decides_equal truth y) (back p.word))
    where
      even : truth ≡ y → Parity inputs truth
      even q = record { few = omega (arith, c, l); word = inr (q ∙ h ∙ ap (λ (w : ℕ). w ∖ ODD_ROWS) row_words) }

      back : (truth ≡ odd_truth (ones inputs)) ⊎ (truth ≡ even_truth (ones inputs)) → truth ≡ y
      back (inl q) = absurd (g (q ∙ sym (e ∙ ap (λ (w : ℕ). ODD_ROWS ∩ w) row_words)))
      back (inr q) = q ∙ sym (h ∙ ap (λ (w : ℕ). w ∖ ODD_ROWS) row_words)

module _ {rules pilots : List ℕ} {t : ℕ} where
  pub not_lent : length rules < FIRST_RULE → Decides (ParityTable rules pilots t) false
  not_lent l = record { yes = λ e. absurd (false≢true e); no = λ e p. omega (arith, p.there, l) }

  pub not_piloted : {n : ℕ} → n ≡ ones (get_or pilots t 0) → ¬ (n ≡ 1) → Decides (ParityTable rules pilots t) false
  not_piloted e g = record { yes = λ q. absurd (false≢true q); no = λ q p. g (e ∙ p.piloted) }

  pub piloted_parity : {n x y : ℕ} {b : Bool} → t < MAX_TABLES → FIRST_RULE ≤ length rules → n ≡ ones (get_or pilots t 0) → n ≡ 1
      → x ≡ inputs rules t → y ≡ truth rules t → Decides (Parity x y) b → Decides (ParityTable rules pilots t) b
  piloted_parity l m e f g h d =
      decides_iff (λ p. record { number = l; there = m; parity = p; piloted = sym e ∙ f }) (λ p. p.parity) (rw (g, h) at d)

-- ---- the word of the tables, and of their atoms

-- the word has the numbers below n of which K holds
pub record Found (K : ℕ → Type 0) (n word : ℕ) : Type 0 where
  pub collects : Collects (λ a. (a < n) × K a) word

pub found_none : {K : ℕ → Type 0} → Found K 0 0
found_none = record { collects = record { each = λ a h. absurd (has_none h); all = λ a k. absurd (omega (arith, k.0)) } }

pub found_next : {K : ℕ → Type 0} {n word x word' : ℕ} {b : Bool} → Found K n word → Decides (K n) b → x ≡ single_if b n → word' ≡ word ∪ x
    → Found K (n + 1) word'
found_next {K} {n} {word} {x} {word'} {b} f d e g = record {
  collects = record {
    each = λ a h. from a (union_cases word (single_if b n) (subst (λ (w : ℕ). Has w a) is h));
    all = λ a k. subst (λ (w : ℕ). Has w a) (sym is) (into a k.0 k.1 (ℕ_discrete n a));
  };
}
  where
    is : word' ≡ word ∪ single_if b n
    is = g ∙ ap (λ (w : ℕ). word ∪ w) e

    from : (a : ℕ) → Has word a ⊎ Has (single_if b n) a → (a < n + 1) × K a
    from a (inl h) = let k = f.collects.each a h in (omega (arith, k.0), k.1)
    from a (inr h) = let s = single_if_at b n h in (omega (arith, s.1), subst K s.1 (d.yes s.0))

    into : (a : ℕ) → a < n + 1 → K a → Dec (n ≡ a) → Has (word ∪ single_if b n) a
    into a l k (yes q) =
        has_right word (single_if b n) (subst (λ (i : ℕ). Has (single_if b n) i) q (single_if_has b n (decided_true d (subst K (sym q) k))))
    into a l k (no q) = has_left word (single_if b n) (f.collects.all a (omega (arith, l, q), k))

pub found_all : {rules pilots : List ℕ} {n word : ℕ} → Found (ParityTable rules pilots) n word → MAX_TABLES ≤ n → Collects (ParityTable rules pilots) word
found_all f l = collects_iff (λ a k. k.1) (λ a k. (omega (arith, k.number, l), k)) f.collects

-- the atoms of table t
abbrev atoms_of : List ℕ → List ℕ → ℕ → ℕ
atoms_of rules pilots t = inputs rules t ∪ get_or pilots t 0

-- the atoms of those tables that are not among the rest
pub record Gathering (rules pilots : List ℕ) (all rest : ℕ) : Type 0 where
  pub which : ℕ
  pub tables : Collects (ParityTable rules pilots) which
  pub within : rest ⊆ which
  pub gathers : Gathers MAX_TABLES (atoms_of rules pilots) which all rest

module _ {rules pilots : List ℕ} where
  pub gathering_start : {which : ℕ} → Collects (ParityTable rules pilots) which → Gathering rules pilots 0 which
  gathering_start {which} c = record {
    which = which;
    tables = c;
    within = subset_refl;
    gathers = record { same = union_none_left (union_in MAX_TABLES which (atoms_of rules pilots)); bounded = λ t h. (c.each t h).number };
  }

  -- the table taken is one of them
  pub gathering_lent : {all rest t : ℕ} → Gathering rules pilots all rest → Lowest rest t → ParityTable rules pilots t
  gathering_lent {t = t} g low = g.tables.each t (taken_lent g.within low)

  pub gathering_next : {all rest t rest' x y all' : ℕ} → Gathering rules pilots all rest → Lowest rest t → rest' ≡ rest ∖ atom t → x ≡ inputs rules t
      → y ≡ x ∪ get_or pilots t 0 → all' ≡ all ∪ y → Gathering rules pilots all' rest'
  gathering_next {t = t} g low e f h j = record {
    which = g.which;
    tables = g.tables;
    within = taken_within g.within low e;
    gathers = gathers_next g.gathers low e (h ∙ ap (λ (w : ℕ). w ∪ get_or pilots t 0) f) j;
  }

  pub gathering_end : {all rest : ℕ} → Gathering rules pilots all rest → rest ≡ 0 → Collects (ParityAtom rules pilots) all
  gathering_end g e =
      rw (gathers_end g.gathers e)
      (collects_iff (λ a k. record { table = k.0; of = g.tables.each k.0 k.2; within = k.3 })
      (λ a k. (k.table, k.of.number, g.tables.all k.table k.of, k.within))
      (collects_union_in MAX_TABLES g.which (atoms_of rules pilots) (λ i l. collects_has (atoms_of rules pilots i))))
