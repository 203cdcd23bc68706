-- Demand 1, from the answer that the function hands back: where the answer comes from tells the first fault, and each first fault tells the answer.
use Rattle.std.specs.Prelude.{Ok, Err}
use Rattle.demands.proofs.Prelude.{◌≡◌, refl, sym, ap, ◌∙◌, subst, subst₂, Bool, true, false, true≢false, inl, inr, List, [], ◌∷◌, ℕ, ◌+◌, ◌-◌, ◌≤◌}
use Rattle.demands.proofs.Prelude.{◌<◌, arith, dec_lt, eqb, length, drop, get_or, replicate, get_or-replicate, get_or-append, length-append, length-drop}
use Rattle.demands.proofs.Prelude.{length-replicate, get_or-append-add, eqb-false, padded, MAX_RULES, LIST_WORDS, TABLE_WORDS, COUNTS, LAST_COUNT}
use Rattle.demands.proofs.Prelude.{RefusedBy, FaultRow, FirstFit, Fault, TableShort, LongList, Outcome, Accepted, Refused, refused_by, told}
use Rattle.demands.proofs.Prelude.{refused_for, reading, accepted, IsByte, All, Contents, commands, record_of, Lays, accepted_is_plan, record_fits}
use Rattle.demands.proofs.Prelude.{Units, units_of, Passes, verdict, VerdictRight, passes, row_16, row_10, row_11, row_12, row_13, row_14, InOrder}
use Rattle.demands.proofs.Prelude.{all_done, next, working_order, order_right, order_one, verdict_right, verdict_only, passes_of_verdict, Listed}
use Rattle.demands.proofs.Prelude.{list_at, table_of, list_counts, cleared, no_counts_of, Answer, refuse, unit_work, answer, Handed, Shown, ListOf, Long}
use Rattle.demands.proofs.Prelude.{FitsList, FirstLong, here, later, last, ListsComplete, Demand3, units_in, Listable, TableFixed, FirstFault}
use Rattle.demands.proofs.Prelude.{table_place, reading_place, graph_place, work_place, LeftBy, Demand1, Listing}
use Rattle.reading.specs.Refusals.{reading_place_of, Stopped}
use Rattle.reading.specs.Reading.{ReadPlan}
use Rattle.reading.proofs.RoundTrip.{layout_is_read}
use Rattle.reading.proofs.JudgedBytes.{reading_judged}
use Rattle.demands.proofs.HeldLists.{list_there, list_absent, list_last, cleared_behind, held_count, held_padded, held_word, held_long, held_behind}
use Rattle.demands.proofs.Answers.{Passed, not_accepted, accepted_passed, short_answer, refused_answer, read_answer, unless_refused_lem}
use Rattle.demands.proofs.Enumerations.{list_once, fits_iff}
use Rattle.demands.proofs.Demand3.{Worked, too_long, all_fit, few, worked, enumerated, answer_is, unit_list_is, last_list_is, accepted_held, demand_3}

-- ---- small laws

-- a list that fits is not above 256, so none is the first that is
fits_not_long : {Member : ℕ → Type 0} → FitsList Member → Long Member → ⊥
fits_not_long f l = omega (arith, ap length (list_once f.is l.is), f.at_most, l.above)

none_long : {S : Units} {done : ℕ} {us : List ℕ} {w : ℕ} → ((u : ℕ) → u < S.units → FitsList (Listed S u)) → FitsList (Shown S) → InOrder S done us
    → FirstLong S us w → ⊥
none_long f k (all_done d) (last l) = fits_not_long k l
none_long f k (next {u = u} below r low o) (here l) = fits_not_long (f u below) l
none_long f k (next below r low o) (later l g) = none_long f k o g

-- the words behind a list
padded_behind : (size : ℕ) (xs : List ℕ) (j : ℕ) → length xs ≤ j → j < size → get_or (padded size xs) j 0 ≡ 0
unfolding padded
padded_behind size xs j l k =
    let e : length xs + (j - length xs) ≡ j = omega arith in
    ap (λ (n : ℕ). get_or (padded size xs) n 0) (sym e) ∙ get_or-append-add xs (replicate {A = ℕ} (size - length xs) 0) (j - length xs) 0
    ∙ get_or-replicate (size - length xs) (j - length xs) 0 0 (omega arith)

cleared_word : (table : List ℕ) (i : ℕ) → i < TABLE_WORDS → get_or (cleared table) i 0 ≡ 0
unfolding cleared
cleared_word table i l =
    let k : i < length (replicate {A = ℕ} TABLE_WORDS 0) = omega (arith, length-replicate {A = ℕ} TABLE_WORDS 0) in
    get_or-append (replicate {A = ℕ} TABLE_WORDS 0) (drop TABLE_WORDS table) 0 i k ∙ get_or-replicate TABLE_WORDS i 0 0 l

cleared_long : (table : List ℕ) → TABLE_WORDS ≤ length table → length (cleared table) ≡ length table
unfolding cleared
cleared_long table l =
    length-append (replicate {A = ℕ} TABLE_WORDS 0) (drop TABLE_WORDS table)
    ∙ omega (arith, length-replicate {A = ℕ} TABLE_WORDS 0, length-drop TABLE_WORDS table)

-- ---- the numbers of the places

-- no row is numbered 15
abbrev none15 : List FaultRow → Bool
none15 [] = true
none15 (r ∷ rows) = elim (eqb r.no 15) [ true ↦ false | false ↦ none15 rows ]

fit_not_15 : (rows : List FaultRow) (n s : ℕ) → none15 rows ≡ true → FirstFit rows n s → ¬ (n ≡ 15)
fit_not_15 [] n s b f e = f
fit_not_15 (r ∷ rows) n s b f e = go (eqb r.no 15) refl f (fit_not_15 rows n s)
  where
    go : (t : Bool) → eqb r.no 15 ≡ t → FirstFit (r ∷ rows) n s → (none15 rows ≡ true → FirstFit rows n s → ¬ (n ≡ 15)) → ⊥
    go true t h rec = true≢false (sym (rw (t, none15) at b))
    go false t (inl h) rec = eqb-false _ _ t (sym h.1.0 ∙ e)
    go false t (inr h) rec = rec (rw (t, none15) at b) h.1 e

reading_number : {bytes : List ℕ} {n s : ℕ} → Stopped bytes n s → ¬ (n ≡ 15)
reading_number {n = n} {s = s} st = fit_not_15 (reading_place_of st.contents (length (commands st.contents)) st.rest) n s refl st.first

-- nor is one of the graph place
graph_number : {S : Units} {o : Outcome} {n s : ℕ} → VerdictRight S o → RefusedBy o n s → ¬ (n ≡ 15)
graph_number (passes p) r e = not_accepted r.fault r.is
graph_number (row_16 l) r e = omega (arith, (told r).0)
graph_number (row_10 g l) r e = omega (arith, (told r).0)
graph_number (row_11 g a l) r e = omega (arith, (told r).0)
graph_number (row_12 g a b l) r e = omega (arith, (told r).0)
graph_number (row_13 g a b y l) r e = omega (arith, (told r).0)
graph_number (row_14 g a b y c l) r e = omega (arith, (told r).0)

-- ---- a plan's lists and what reading gives

module _ {bytes : List ℕ} {c : Contents} (l : Lays bytes c) where
  pub lays_read : reading bytes ≡ accepted (record_of c)
  lays_read = ap reading l.bytes_are ∙ layout_is_read c l.within l.counted

  pub lays_accepted : (reading bytes).outcome ≡ Accepted
  lays_accepted = ap (λ (r : ReadPlan). r.outcome) lays_read

  pub lays_units : units_of (reading bytes).plan ≡ units_in c
  lays_units = ap (λ (r : ReadPlan). units_of r.plan) lays_read

-- of a plan that is listed demand 3 says that all is listed
pub listable_lists : {bytes table : List ℕ} {r : Listing} {table' : List ℕ} {c : Contents} → Demand3 bytes table r table' → Listable bytes c
    → TABLE_WORDS ≤ length table → ListsComplete (record_of c) r table'
listable_lists {r = r} {table' = table'} demand k long =
    let e = sym (lays_units k.lays) in
    let d = demand.complete (lays_accepted k.lays) (subst Passes e k.passes) long in
    subst (λ (x : ReadPlan). ListsComplete x.plan r table') (lays_read k.lays)
    (d.otherwise
    (λ u f.
    none_long (subst (λ (T : Units). (v : ℕ) → v < T.units → FitsList (Listed T v)) e k.unit_fits)
    (subst (λ (T : Units). FitsList (Shown T)) e k.last_fits) d.in_order f))

laid : {bytes : List ℕ} → All IsByte bytes → (reading bytes).outcome ≡ Accepted → (c : Contents) × Lays bytes c
laid {bytes} all e = let p = accepted_is_plan bytes all e in (p.contents, record { within = p.within; counted = p.counted; bytes_are = p.bytes_are })

-- ---- where an answer comes from

module _ (bytes table : List ℕ) (all : All IsByte bytes) where
  abbrev S : Units
  S = units_of (reading bytes).plan

  abbrev order : List ℕ
  order = working_order S

  data Comes : Answer → Type 0 where
    short : length table < TABLE_WORDS → Comes (refuse (TableShort (length table)) table)
    unread : (f : Fault) → TABLE_WORDS ≤ length table → (reading bytes).outcome ≡ Refused f → Comes (refuse f table)
    stopped : (f : Fault) → TABLE_WORDS ≤ length table → (reading bytes).outcome ≡ Accepted → verdict S ≡ Refused f → Comes (refuse f table)
    overlong : (u : ℕ) → Passed bytes table → FirstLong S order u → Comes (refuse (LongList u) (cleared table))
    listed : Passed bytes table → Comes (record { outcome = Accepted; counts = list_counts S; table = table_of S table })

  comes : Comes (answer bytes table)
  comes = by_table (dec_lt (length table) TABLE_WORDS)
    where
      by_work : Passed bytes table → answer bytes table ≡ unit_work S table → Worked S table order → Comes (answer bytes table)
      by_work p e (too_long {u = u} f q) = subst Comes (sym (e ∙ q)) (overlong u p f)
      by_work p e (all_fit f k q) = subst Comes (sym (e ∙ q)) (listed p)

      by_graph : TABLE_WORDS ≤ length table → (reading bytes).outcome ≡ Accepted → (o : Outcome) → verdict S ≡ o → Comes (answer bytes table)
      by_graph l e (Err f) v =
          subst Comes (sym (read_answer bytes table l e ∙ unless_refused_lem f table (unit_work S table) v)) (stopped f l e v)
      by_graph l e (Ok u) v =
          let p : Passed bytes table = record { long = l; reads = e; passes = passes_of_verdict S v } in
          by_work p (answer_is bytes table all p) (worked table order (enumerated bytes table all p))

      by_reading : TABLE_WORDS ≤ length table → (o : Outcome) → (reading bytes).outcome ≡ o → Comes (answer bytes table)
      by_reading l (Err f) e = subst Comes (sym (refused_answer bytes table f l e)) (unread f l e)
      by_reading l (Ok u) e = by_graph l e (verdict S) refl

      by_table : Dec (length table < TABLE_WORDS) → Comes (answer bytes table)
      by_table (yes l) = subst Comes (sym (short_answer bytes table l)) (short l)
      by_table (no n) = by_reading (omega arith) (reading bytes).outcome refl

  few_rules : S.rules ≤ MAX_RULES
  unfolding units_of
  few_rules = (record_fits bytes).rules_fit

  few_units : S.units ≤ MAX_RULES
  unfolding units_of
  few_units = let f = (record_fits bytes).units_fit in omega arith

  -- ---- the first fault

  faulty : {a : Answer} {n s : ℕ} → Comes a → RefusedBy a.outcome n s → FirstFault bytes table n s
  faulty (short l) r = let t = told r in subst₂ (FirstFault bytes table) t.0 t.1 (table_place l)
  faulty {n = n} {s = s} (unread f l e) r = reading_place l (((reading_judged bytes all).refused n s).0 (refused_for (sym e) r))
  faulty (stopped f l e v) r =
      let c = laid all e in
      graph_place l c.1 (subst₂ VerdictRight (lays_units c.1) v (verdict_right S few_rules few_units)) r
  faulty (overlong u p f) r =
      let c = laid all p.reads in
      let e = lays_units c.1 in
      let t = told r in
      subst₂ (FirstFault bytes table) t.0 t.1
      (work_place {c = c.0} p.long c.1 (subst Passes e p.passes)
      (subst (λ (T : Units). InOrder T 0 order) e (order_right S p.passes.acyclic))
      (subst (λ (T : Units). FirstLong T order u) e f))
  faulty (listed p) r = absurd (not_accepted r.fault r.is)

  module _ {r : Listing} {table' : List ℕ} (h : Handed (answer bytes table) r table') where
    handed_refused : {a : Answer} {n s : ℕ} → answer bytes table ≡ a → RefusedBy a.outcome n s → RefusedBy r.outcome n s
    handed_refused e x = refused_for (sym (h.outcome_is ∙ ap (λ (y : Answer). y.outcome) e)) x

    refused_so : (n s : ℕ) → FirstFault bytes table n s → RefusedBy r.outcome n s
    refused_so n s (table_place l) = handed_refused (short_answer bytes table l) ((refused_by (TableShort (length table))).1 refl)
    refused_so n s (reading_place l st) =
        let x = ((reading_judged bytes all).refused n s).1 st in
        handed_refused (refused_answer bytes table x.fault l x.is) (refused_for x.is x)
    refused_so n s (graph_place {o = o} l k w x) =
        let v : verdict S ≡ o = verdict_only S few_rules few_units o (subst (λ (T : Units). VerdictRight T o) (sym (lays_units k)) w) in
        handed_refused
        (read_answer bytes table l (lays_accepted k) ∙ unless_refused_lem x.fault table (unit_work S table) (v ∙ x.is))
        (refused_for x.is x)
    refused_so n s (work_place {u = u} {order = us} l k pass o f) =
        let e = sym (lays_units k) in
        let d = (demand_3 bytes table all r table' h).complete (lays_accepted k) (subst Passes e pass) l in
        let same : us ≡ d.order = order_one S (subst (λ (T : Units). InOrder T 0 us) e o) d.in_order in
        (d.fifteen u).1 (subst (λ (ws : List ℕ). FirstLong S ws u) same (subst (λ (T : Units). FirstLong T us u) e f))

    -- ---- what a refusal leaves

    left_as_it_was : {n : ℕ} → r.counts ≡ no_counts_of → table' ≡ table → ¬ (n ≡ 15) → LeftBy n table r table'
    unfolding no_counts_of
    left_as_it_was k t d = record {
      no_counts = λ i l. ap (λ (x : List ℕ). get_or x i 0) k ∙ get_or-replicate COUNTS i 0 0 l;
      untouched = λ _. t;
      emptied = λ e. absurd (d e);
      behind = ap (drop TABLE_WORDS) t;
      same_length = ap length t;
    }

    left_empty : {n : ℕ} → TABLE_WORDS ≤ length table → r.counts ≡ no_counts_of → table' ≡ cleared table → n ≡ 15 → LeftBy n table r table'
    unfolding no_counts_of
    left_empty long k t e = record {
      no_counts = λ i l. ap (λ (x : List ℕ). get_or x i 0) k ∙ get_or-replicate COUNTS i 0 0 l;
      untouched = λ d. absurd (d e);
      emptied = λ _ i l. ap (λ (x : List ℕ). get_or x i 0) t ∙ cleared_word table i l;
      behind = ap (drop TABLE_WORDS) t ∙ cleared_behind table;
      same_length = ap length t ∙ cleared_long table long;
    }

    left : {a : Answer} {n s : ℕ} → r.counts ≡ a.counts → table' ≡ a.table → Comes a → RefusedBy a.outcome n s → LeftBy n table r table'
    left k t (short l) x = left_as_it_was k t (λ e. omega (arith, (told x).0))
    left {n = n} {s = s} k t (unread f l e) x =
        left_as_it_was k t (reading_number (((reading_judged bytes all).refused n s).0 (refused_for (sym e) x)))
    left k t (stopped f l e v) x =
        left_as_it_was k t (graph_number (verdict_right S few_rules few_units) (refused_for (sym v) x))
    left k t (overlong u p f) x = left_empty p.long k t (sym (told x).0)
    left k t (listed p) x = absurd (not_accepted x.fault x.is)

    -- ---- what is listed

    listable : r.outcome ≡ Accepted → (TABLE_WORDS ≤ length table) × ((c : Contents) × Listable bytes c)
    listable e =
        let p = accepted_passed bytes table (sym h.outcome_is ∙ e) in
        let c = laid all p.reads in
        let held = accepted_held bytes table all p h e in
        let same = lays_units c.1 in
        let most = few bytes table all p in (
          p.long,
          (
            c.0,
            record {
              lays = c.1;
              passes = subst Passes same p.passes;
              unit_fits = subst (λ (T : Units). (u : ℕ) → u < T.units → FitsList (Listed T u)) same
                  (λ u l.
                  (fits_iff (unit_list_is bytes table all p u l)).1
                  (subst (λ (xs : List ℕ). length xs ≤ LIST_WORDS) (list_there S u most l) (held.small u)));
              last_fits = subst (λ (T : Units). FitsList (Shown T)) same
                  ((fits_iff (last_list_is bytes table all p)).1
                  (subst (λ (xs : List ℕ). length xs ≤ LIST_WORDS) (list_last S) (held.small LAST_COUNT)));
            },
          ),
        )

    accepted_so : (TABLE_WORDS ≤ length table) × ((c : Contents) × Listable bytes c) → r.outcome ≡ Accepted
    accepted_so (long, (c, k)) = (listable_lists (demand_3 bytes table all r table' h) k long).accepted

    all_listed : r.outcome ≡ Accepted → TableFixed S table r table'
    all_listed e =
        let p = accepted_passed bytes table (sym h.outcome_is ∙ e) in
        let held = accepted_held bytes table all p h e in
        let most = few bytes table all p in
        record {
          lists = list_at S;
          unit_list = λ u l. subst (ListOf (Listed S u)) (sym (list_there S u most l)) (unit_list_is bytes table all p u l);
          no_unit = λ i l k. list_absent S i (λ q. omega arith) l;
          last_list = subst (ListOf (Shown S)) (sym (list_last S)) (last_list_is bytes table all p);
          counted = held_count held;
          member = held_word held;
          zero_behind = λ i j l k m. held_padded held i j l m ∙ padded_behind LIST_WORDS (list_at S i) j k m;
          untouched = held_behind held;
          same_length = held_long held;
        }

    pub demand_1 : Demand1 bytes table r table'
    demand_1 = record {
      accepts = (listable, accepted_so);
      lists = λ c k long.
          subst (λ (T : Units). TableFixed T table r table') (lays_units k.lays) (all_listed (accepted_so (long, (c, k))));
      refuses = λ n s. (λ x. faulty comes (refused_for h.outcome_is x), refused_so n s);
      leaves = λ n s x. left h.counts_are h.table_is comes (refused_for h.outcome_is x);
    }
