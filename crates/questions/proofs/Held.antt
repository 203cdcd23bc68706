-- Counts kept while the list is gone through: one position held against question after question, and position after position.
use Rattle.questions.proofs.Prelude.{◌≡◌, sym, ap, ap₂, ◌∙◌, Bool, true, false, List, [], ℕ, ◌+◌, ◌^◌, ◌≤◌, ◌<◌, arith, add-one, dec_lt, length, get_or}
use Rattle.questions.proofs.Prelude.{set, take, replicate, length-take, take_all, ext_get_or, lt-ltb, le-ltb, tabulate, tabulate_long, tabulate_same}
use Rattle.questions.proofs.Prelude.{tabulate_zero, get_or_tabulate, set_tabulate, MAX_QUESTIONS, fits, one, fitting_count, up_to, counts_of, held}
use Rattle.questions.specs.Counting.{Holdable}
use Rattle.questions.proofs.QuestionCounts.{count_more, count-le, one-le}

-- ---- numbers up to a bound

pub up_to_below : (n : ℕ) (f : ℕ → ℕ) (i : ℕ) → i < n → up_to n f i ≡ f i
unfolding up_to
up_to_below n f i l = ap (λ (b : Bool). elim b [ true ↦ f i | false ↦ 0 ]) (lt-ltb i n l)

pub up_to_behind : (n : ℕ) (f : ℕ → ℕ) (i : ℕ) → n ≤ i → up_to n f i ≡ 0
unfolding up_to
up_to_behind n f i l = ap (λ (b : Bool). elim b [ true ↦ f i | false ↦ 0 ]) (le-ltb i n l)

-- one number more
up_to_more : (n : ℕ) (f : ℕ → ℕ) (i : ℕ) → ¬ (i ≡ n) → up_to n f i ≡ up_to (n + 1) f i
up_to_more n f i d = go (dec_lt i n)
  where
    go : Dec (i < n) → up_to n f i ≡ up_to (n + 1) f i
    go (yes l) = up_to_below n f i l ∙ sym (up_to_below (n + 1) f i (omega arith))
    go (no l) = up_to_behind n f i (omega arith) ∙ sym (up_to_behind (n + 1) f i (omega arith))

-- ---- one position, question after question

module _ (position : ℕ) (up dropped before : List ℕ) where
  -- what the position adds to the count of question i
  abbrev adds : ℕ → ℕ
  adds i = one (fits (get_or up i 0) (get_or dropped i 0) position)

  -- the position is held against the first i of n questions
  pub record Holding (n : ℕ) (after : List ℕ) (i : ℕ) : Type 0 where
    pub holdable : Holdable n up dropped before
    pub reached : i ≤ n
    pub so_far : after ≡ held position i up dropped before

  pub held_long : (n : ℕ) → length (held position n up dropped before) ≡ length before
  unfolding held
  held_long n = tabulate_long (length before) (λ i. get_or before i 0 + up_to n adds i)

  held_at : (n i : ℕ) → i < length before → get_or (held position n up dropped before) i 0 ≡ get_or before i 0 + up_to n adds i
  unfolding held
  held_at n i l = get_or_tabulate (length before) (λ j. get_or before j 0 + up_to n adds j) i l

  -- a question that the position was not yet held against has its old count
  held_behind : (n i : ℕ) → n ≤ i → i < length before → get_or (held position n up dropped before) i 0 ≡ get_or before i 0
  held_behind n i k l = held_at n i l ∙ ap (λ (a : ℕ). get_or before i 0 + a) (up_to_behind n adds i k) ∙ omega arith

  held_none : before ≡ held position 0 up dropped before
  held_none =
      ext_get_or 0 before (held position 0 up dropped before) (sym (held_long 0)) (λ i l. sym (held_behind 0 i (omega arith) l))

  held_more : (i : ℕ) → i < length before
      → set (held position i up dropped before) i (get_or before i 0 + adds i) ≡ held position (i + 1) up dropped before
  unfolding held
  held_more i l =
      set_tabulate (length before) (λ j. get_or before j 0 + up_to i adds j) (λ j. get_or before j 0 + up_to (i + 1) adds j) i (get_or before i 0 + adds i) l
      (ap (λ (a : ℕ). get_or before i 0 + a) (sym (up_to_below (i + 1) adds i (omega arith))))
      (λ j d. ap (λ (a : ℕ). get_or before j 0 + a) (up_to_more i adds j d))

  pub holding_start : {n : ℕ} → Holdable n up dropped before → Holding n before 0
  holding_start h = record { holdable = h; reached = omega arith; so_far = held_none }

  pub holding_long : {n i : ℕ} {after : List ℕ} → Holding n after i → length after ≡ length before
  holding_long {i = i} h = ap length h.so_far ∙ held_long i

  pub within : {n i : ℕ} {after : List ℕ} → Holding n after i → i < n → i < length before
  within h l = omega (arith, h.holdable.all_counts)

  pub within_now : {n i : ℕ} {after : List ℕ} → Holding n after i → i < n → i < length after
  within_now h l = omega (arith, holding_long h, within h l)

  old_count : {n i : ℕ} {after : List ℕ} → Holding n after i → i < n → get_or after i 0 ≡ get_or before i 0
  old_count {n} {i} h l =
      ap (λ (xs : List ℕ). get_or xs i 0) h.so_far ∙ held_behind i i (omega arith) (within h l)

  pub holding_fits : {n i v : ℕ} {after : List ℕ} → Holding n after i → i < n → v ≡ adds i → get_or after i 0 + v < 2 ^ 64
  holding_fits {n} {i} h l e = omega (arith, old_count h l, h.holdable.room i l, one-le (fits (get_or up i 0) (get_or dropped i 0) position))

  pub holding_more : {n i v : ℕ} {after : List ℕ} → Holding n after i → i < n → v ≡ adds i → Holding n (set after i (get_or after i 0 + v)) (i + 1)
  holding_more {n} {i} {v} {after} h l e =
      record {
        holdable = h.holdable;
        reached = omega arith;
        so_far =
            ap₂ (λ (xs : List ℕ) (k : ℕ). set xs i k) h.so_far (ap₂ ◌+◌ (old_count h l) e)
            ∙ held_more i (within h l);
      }

  pub holding_end : {n i : ℕ} {after : List ℕ} → Holding n after i → n ≤ i → after ≡ held position n up dropped before
  holding_end {n} {i} h l =
      let k : i ≤ n = h.reached in
      let e : i ≡ n = omega arith in
      h.so_far ∙ ap (λ (j : ℕ). held position j up dropped before) e

-- ---- position after position

-- the number of question i, from the words of the questions
abbrev count_at : List ℕ → List ℕ → List ℕ → ℕ → ℕ
count_at list up dropped i = fitting_count list (get_or up i 0) (get_or dropped i 0)

module _ (list : List ℕ) (n : ℕ) (up dropped : List ℕ) where
  pub counts_long : length (counts_of list n up dropped) ≡ MAX_QUESTIONS
  unfolding counts_of
  counts_long = tabulate_long MAX_QUESTIONS (up_to n (count_at list up dropped))

  counts_at : (i : ℕ) → i < MAX_QUESTIONS → get_or (counts_of list n up dropped) i 0 ≡ up_to n (count_at list up dropped) i
  unfolding counts_of
  counts_at i l = get_or_tabulate MAX_QUESTIONS (up_to n (count_at list up dropped)) i l

  -- the count of one of the first n questions
  pub count_is : (i : ℕ) → i < n → n ≤ MAX_QUESTIONS → get_or (counts_of list n up dropped) i 0 ≡ fitting_count list (get_or up i 0) (get_or dropped i 0)
  count_is i l k = counts_at i (omega arith) ∙ up_to_below n (count_at list up dropped) i l

  -- the counts of the first `at` positions
  pub record Tally (counts : List ℕ) (at : ℕ) : Type 0 where
    pub reached : at ≤ length list
    pub at_most : n ≤ MAX_QUESTIONS
    pub up_long : length up ≡ MAX_QUESTIONS
    pub dropped_long : length dropped ≡ MAX_QUESTIONS
    pub so_far : counts ≡ counts_of (take at list) n up dropped

counts_none : (n : ℕ) (up dropped : List ℕ) → replicate MAX_QUESTIONS 0 ≡ counts_of [] n up dropped
unfolding counts_of fitting_count
counts_none n up dropped =
    sym (tabulate_zero MAX_QUESTIONS) ∙ tabulate_same MAX_QUESTIONS (λ i. 0) (up_to n (count_at [] up dropped)) (λ i l. go i (dec_lt i n))
  where
    go : (i : ℕ) → Dec (i < n) → 0 ≡ up_to n (count_at [] up dropped) i
    go i (yes l) = sym (up_to_below n (count_at [] up dropped) i l)
    go i (no l) = sym (up_to_behind n (count_at [] up dropped) i (omega arith))

-- a position more adds to each count what it adds when held against the questions
counts_more : (list : List ℕ) (at n : ℕ) (up dropped : List ℕ) → at < length list
    → held (get_or list at 0) n up dropped (counts_of (take at list) n up dropped) ≡ counts_of (take (at + 1) list) n up dropped
unfolding held counts_of
counts_more list at n up dropped l =
    ap (λ (k : ℕ). tabulate k added) (counts_long (take at list) n up dropped)
    ∙ tabulate_same MAX_QUESTIONS added (up_to n (count_at (take (at + 1) list) up dropped)) (λ i k. go i k (dec_lt i n))
  where
    now_adds : ℕ → ℕ
    now_adds i = one (fits (get_or up i 0) (get_or dropped i 0) (get_or list at 0))

    added : ℕ → ℕ
    added i = get_or (counts_of (take at list) n up dropped) i 0 + up_to n now_adds i

    go : (i : ℕ) → i < MAX_QUESTIONS → Dec (i < n) → added i ≡ up_to n (count_at (take (at + 1) list) up dropped) i
    go i k (yes h) =
        ap₂ ◌+◌ (counts_at (take at list) n up dropped i k ∙ up_to_below n (count_at (take at list) up dropped) i h) (up_to_below n now_adds i h)
        ∙ sym (count_more list at (get_or up i 0) (get_or dropped i 0) l)
        ∙ ap (λ (j : ℕ). count_at (take j list) up dropped i) (sym (add-one at))
        ∙ sym (up_to_below n (count_at (take (at + 1) list) up dropped) i h)
    go i k (no h) =
        ap₂ ◌+◌ (counts_at (take at list) n up dropped i k ∙ up_to_behind n (count_at (take at list) up dropped) i (omega arith))
        (up_to_behind n now_adds i (omega arith))
        ∙ sym (up_to_behind n (count_at (take (at + 1) list) up dropped) i (omega arith))

module _ {list : List ℕ} {n : ℕ} {up dropped : List ℕ} where
  pub tally_start : n ≤ MAX_QUESTIONS → length up ≡ MAX_QUESTIONS → length dropped ≡ MAX_QUESTIONS
      → Tally list n up dropped (replicate MAX_QUESTIONS 0) 0
  tally_start l u d = record { reached = omega arith; at_most = l; up_long = u; dropped_long = d; so_far = counts_none n up dropped }

  pub tally_long : {counts : List ℕ} {at : ℕ} → Tally list n up dropped counts at → length counts ≡ MAX_QUESTIONS
  tally_long {at = at} t = ap length t.so_far ∙ counts_long (take at list) n up dropped

  pub tally_holdable : {counts : List ℕ} {at : ℕ} → Tally list n up dropped counts at → at < length list → length list < 2 ^ 64
      → Holdable n up dropped counts
  tally_holdable {counts} {at} t l fits =
      record {
        all_up = omega (arith, t.at_most, t.up_long);
        all_dropped = omega (arith, t.at_most, t.dropped_long);
        all_counts = omega (arith, t.at_most, tally_long t);
        room = λ i k.
            omega (
              arith,
              ap (λ (xs : List ℕ). get_or xs i 0) t.so_far,
              count_is (take at list) n up dropped i k t.at_most,
              count-le (take at list) (get_or up i 0) (get_or dropped i 0),
              length-take at list,
            );
      }

  pub tally_more : {counts counts' : List ℕ} {at : ℕ} → Tally list n up dropped counts at → at < length list
      → counts' ≡ held (get_or list at 0) n up dropped counts → Tally list n up dropped counts' (at + 1)
  tally_more {counts} {counts'} {at} t l e =
      record {
        reached = omega arith;
        at_most = t.at_most;
        up_long = t.up_long;
        dropped_long = t.dropped_long;
        so_far = e ∙ ap (held (get_or list at 0) n up dropped) t.so_far ∙ counts_more list at n up dropped l;
      }

  pub tally_end : {counts : List ℕ} {at : ℕ} → Tally list n up dropped counts at → length list ≤ at → counts ≡ counts_of list n up dropped
  tally_end {at = at} t l = t.so_far ∙ ap (λ (xs : List ℕ). counts_of xs n up dropped) (take_all at list l)
