-- Lists in the table, each in its 256 words, and their counts: what is read there, what a store changes, and what clearing leaves.
use Rattle.demands.proofs.Prelude.{◌≡◌, refl, sym, ap, ap₂, ◌∙◌, subst, List, [], ◌++◌, append_assoc, ℕ, ◌+◌, ◌-◌, ◌*◌, ◌≤◌, ◌<◌, arith, ℕ_discrete}
use Rattle.demands.proofs.Prelude.{length, take, drop, get_or, set, replicate, length-append, length-drop, length-replicate, paste, take_at, drop_at}
use Rattle.demands.proofs.Prelude.{lt-ltb, le-ltb, ne_eqb, padded, padded_nil, padded_long, padded_at, tabulate_long, tabulate_same, tabulate_zero}
use Rattle.demands.proofs.Prelude.{get_or_tabulate, set_tabulate, MAX_UNITS, LIST_WORDS, TABLE_WORDS, COUNTS, LAST_COUNT, Units, unit_list_of, last_list_of}
use Rattle.demands.proofs.Prelude.{list_at, runs, table_with, counts_with, cleared, no_counts_of, Holding}
use Rattle.demands.proofs.Runs.{runs_long, runs_same, runs_zero, runs_at, runs_from, runs_paste}

-- ---- the lists by place

pub list_there : (S : Units) (i : ℕ) → S.units ≤ MAX_UNITS → i < S.units → list_at S i ≡ unit_list_of S i
unfolding list_at
list_there S i few l = rw (ne_eqb i LAST_COUNT (λ e. omega arith), list_at) (rw (lt-ltb i S.units l))

pub list_absent : (S : Units) (i : ℕ) → ¬ (i ≡ LAST_COUNT) → S.units ≤ i → list_at S i ≡ []
unfolding list_at
list_absent S i n l = rw (ne_eqb i LAST_COUNT n, list_at) (rw (le-ltb i S.units l))

pub list_last : (S : Units) → list_at S LAST_COUNT ≡ last_list_of S
unfolding list_at
list_last S = refl

-- ---- clearing

pub cleared_behind : (t : List ℕ) → drop TABLE_WORDS (cleared t) ≡ drop TABLE_WORDS t
unfolding cleared
cleared_behind t = drop_at (replicate {A = ℕ} TABLE_WORDS 0) (drop TABLE_WORDS t) TABLE_WORDS (length-replicate {A = ℕ} TABLE_WORDS 0)

-- what is cleared, and what is filled with lists, has of the table its words from 4,352 on alone
cleared_same : (a b : List ℕ) → drop TABLE_WORDS a ≡ drop TABLE_WORDS b → cleared a ≡ cleared b
unfolding cleared
cleared_same a b e = ap (λ (l : List ℕ). replicate {A = ℕ} TABLE_WORDS 0 ++ l) e

pub cleared_again : (t : List ℕ) → cleared (cleared t) ≡ cleared t
cleared_again t = cleared_same (cleared t) t (cleared_behind t)

pub with_cleared : (lists : ℕ → List ℕ) (t : List ℕ) → table_with lists (cleared t) ≡ table_with lists t
unfolding table_with
with_cleared lists t = ap (λ (l : List ℕ). runs COUNTS (λ i. padded LIST_WORDS (lists i)) ++ l) (cleared_behind t)

-- ---- nothing is held

pub holding_none : (lists : ℕ → List ℕ) (t : List ℕ) → ((i : ℕ) → lists i ≡ []) → TABLE_WORDS ≤ length t
    → Holding lists (cleared t) (cleared t) no_counts_of
unfolding cleared table_with no_counts_of counts_with
holding_none lists t none long = record {
  table_is = ap₂ ◌++◌
      (sym (runs_zero COUNTS)
      ∙ runs_same COUNTS (λ i. replicate {A = ℕ} LIST_WORDS 0) (λ i. padded LIST_WORDS (lists i))
      (λ i. sym (ap (padded LIST_WORDS) (none i) ∙ padded_nil LIST_WORDS)))
      (sym (cleared_behind t));
  counts_are = sym (tabulate_zero COUNTS) ∙ tabulate_same COUNTS (λ i. 0) (λ i. length (lists i)) (λ i l. sym (ap length (none i)));
  small = λ i. subst (λ (l : List ℕ). length l ≤ LIST_WORDS) (sym (none i)) (omega arith);
  long = omega (arith, length-append (replicate {A = ℕ} TABLE_WORDS 0) (drop TABLE_WORDS t), length-replicate {A = ℕ} TABLE_WORDS 0);
}

-- ---- what is held

module _ {lists : ℕ → List ℕ} {table₀ table counts : List ℕ} (h : Holding lists table₀ table counts) where
  run_long : (i : ℕ) → length (padded LIST_WORDS (lists i)) ≡ LIST_WORDS
  run_long i = padded_long LIST_WORDS (lists i) (h.small i)

  all_runs : length (runs COUNTS (λ i. padded LIST_WORDS (lists i))) ≡ TABLE_WORDS
  all_runs = runs_long COUNTS (λ i. padded LIST_WORDS (lists i)) run_long

  pub held_count : (v : ℕ) → v < COUNTS → get_or counts v 0 ≡ length (lists v)
  unfolding counts_with
  held_count v l = ap (λ (c : List ℕ). get_or c v 0) h.counts_are ∙ get_or_tabulate COUNTS (λ i. length (lists i)) v l

  pub held_padded : (v i : ℕ) → v < COUNTS → i < LIST_WORDS → get_or table (LIST_WORDS * v + i) 0 ≡ get_or (padded LIST_WORDS (lists v)) i 0
  unfolding table_with
  held_padded v i l k =
      ap (λ (t : List ℕ). get_or t (LIST_WORDS * v + i) 0) h.table_is
      ∙ runs_at COUNTS (λ j. padded LIST_WORDS (lists j)) (drop TABLE_WORDS table₀) v i run_long l k

  pub held_word : (v i : ℕ) → v < COUNTS → i < length (lists v) → get_or table (LIST_WORDS * v + i) 0 ≡ get_or (lists v) i 0
  held_word v i l k = held_padded v i l (omega (arith, h.small v)) ∙ padded_at LIST_WORDS (lists v) i k

  -- a list's words are as many as its count says
  pub held_list : (v : ℕ) → v < COUNTS → take (get_or counts v 0) (drop (LIST_WORDS * v) table) ≡ lists v
  unfolding table_with padded
  held_list v l =
      let r = runs_from COUNTS (λ i. padded LIST_WORDS (lists i)) (drop TABLE_WORDS table₀) v run_long l in
      ap (take (get_or counts v 0))
      (ap (drop (LIST_WORDS * v)) h.table_is ∙ r.1 ∙ append_assoc (lists v) (replicate {A = ℕ} (LIST_WORDS - length (lists v)) 0) r.0)
      ∙ take_at (lists v) (replicate {A = ℕ} (LIST_WORDS - length (lists v)) 0 ++ r.0) (get_or counts v 0) (sym (held_count v l))

  pub held_counts_long : length counts ≡ COUNTS
  unfolding counts_with
  held_counts_long = ap length h.counts_are ∙ tabulate_long COUNTS (λ i. length (lists i))

  pub held_long : length table ≡ length table₀
  unfolding table_with
  held_long =
      ap length h.table_is ∙ length-append (runs COUNTS (λ i. padded LIST_WORDS (lists i))) (drop TABLE_WORDS table₀)
      ∙ omega (arith, all_runs, length-drop TABLE_WORDS table₀, h.long)

  pub held_behind : drop TABLE_WORDS table ≡ drop TABLE_WORDS table₀
  unfolding table_with
  held_behind =
      ap (drop TABLE_WORDS) h.table_is
      ∙ drop_at (runs COUNTS (λ i. padded LIST_WORDS (lists i))) (drop TABLE_WORDS table₀) TABLE_WORDS all_runs

  pub held_cleared : cleared table ≡ cleared table₀
  held_cleared = cleared_same table table₀ held_behind

  -- one list is stored at its place, and the others stay
  pub holding_next : (lists' : ℕ → List ℕ) (v : ℕ) {table' counts' : List ℕ} → v < COUNTS
      → ((j : ℕ) → ¬ (j ≡ v) → lists j ≡ lists' j)
      → length (lists' v) ≤ LIST_WORDS → table' ≡ paste table (LIST_WORDS * v) (padded LIST_WORDS (lists' v)) LIST_WORDS
      → counts' ≡ set counts v (length (lists' v)) → Holding lists' table₀ table' counts'
  unfolding table_with counts_with
  holding_next lists' v l same few t c = record {
    table_is = t ∙ ap (λ (x : List ℕ). paste x (LIST_WORDS * v) (padded LIST_WORDS (lists' v)) LIST_WORDS) h.table_is
        ∙ runs_paste COUNTS (λ i. padded LIST_WORDS (lists i)) (λ i. padded LIST_WORDS (lists' i)) (drop TABLE_WORDS table₀) v run_long
        (padded_long LIST_WORDS (lists' v) few) (λ j d. ap (padded LIST_WORDS) (same j d)) l;
    counts_are = c ∙ ap (λ (x : List ℕ). set x v (length (lists' v))) h.counts_are
        ∙ set_tabulate COUNTS (λ i. length (lists i)) (λ i. length (lists' i)) v (length (lists' v)) l refl (λ i d. ap length (same i d));
    small = λ i. each i (ℕ_discrete i v);
    long = h.long;
  }
    where
      each : (i : ℕ) → Dec (i ≡ v) → length (lists' i) ≤ LIST_WORDS
      each i (yes e) = subst (λ (x : ℕ). length (lists' x) ≤ LIST_WORDS) (sym e) few
      each i (no n) = subst (λ (x : List ℕ). length x ≤ LIST_WORDS) (same i n) (h.small i)
