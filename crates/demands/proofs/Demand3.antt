-- Demand 3, from the answer that the function hands back and the theorem of the splitting theory: along the working order the first list above
-- 256 is refused, and where there is none every list is in the table.
use Rattle.demands.proofs.Prelude.{◌≡◌, refl, sym, ap, ◌∙◌, subst, ◌↔◌, ◌⊎◌, inl, inr, List, [], ◌∷◌, List-as-Memᴰ, Memᴰ-head, Memᴰ-tail}
use Rattle.demands.proofs.Prelude.{Memᴰ-not-nil, Memᴰ-cases_cons, ℕ, ◌≤◌, ◌<◌, arith, ℕ_discrete, dec_lt, length, Rising, cut_for, Settles}
use Rattle.demands.proofs.Prelude.{MAX_UNITS, LIST_WORDS, TABLE_WORDS, LAST_COUNT, LongList, Accepted, Refused, refused_by, reading, IsByte, All}
use Rattle.demands.proofs.Prelude.{record_fits, Units, working_order, units_of, order_right, order_each, order_only, verdict_of_passes, Listed}
use Rattle.demands.proofs.Prelude.{last_list, unit_list_of, last_list_of, list_at, table_of, list_counts, cleared, Answer, refuse, work_from, unit_work, answer}
use Rattle.demands.proofs.Prelude.{Handed, Holding, Shown, ListOf, FirstLong, here, later, last, ListsComplete, Complete, Demand3, Listing}
use Rattle.atoms.specs.Cuts.{CutOf}
use Rattle.dependency_graph.proofs.PlanUnits.{looks_only}
use Rattle.demands.proofs.HeldLists.{list_there, list_absent, list_last, held_count, held_list}
use Rattle.demands.proofs.Answers.{Passed, not_accepted, read_answer, unless_accepted, work_fits, work_long, last_fits, last_long}
use Rattle.demands.proofs.CleanPlan.{plan_clean}
use Rattle.demands.proofs.Enumerations.{long_iff, fits_iff, unit_list_of_lem, last_list_of_lem}

-- ---- along the units

-- the computing lists of these units, and the last one, are lists by meaning
pub record Enumerated (S : Units) (us : List ℕ) : Type 0 where
  pub each : (u : ℕ) → List-as-Memᴰ u us → ListOf (Listed S u) (unit_list_of S u)
  pub last_one : ListOf (Shown S) (last_list_of S)

-- what unit work comes to
pub data Worked (S : Units) (table us : List ℕ) : Type 0 where
  too_long : {u : ℕ} → FirstLong S us u → work_from S table us ≡ refuse (LongList u) (cleared table) → Worked S table us
  all_fit : ((u : ℕ) → List-as-Memᴰ u us → length (unit_list_of S u) ≤ LIST_WORDS) → length (last_list_of S) ≤ LIST_WORDS
      → work_from S table us ≡ record { outcome = Accepted; counts = list_counts S; table = table_of S table } → Worked S table us

module _ {S : Units} (table : List ℕ) where
  first : {v : ℕ} {vs : List ℕ} → Enumerated S (v ∷ vs) → ListOf (Listed S v) (unit_list_of S v)
  first {v} e = e.each v (Memᴰ-head refl)

  rest : {v : ℕ} {vs : List ℕ} → Enumerated S (v ∷ vs) → Enumerated S vs
  rest e = record { each = λ u m. e.each u (Memᴰ-tail m); last_one = e.last_one }

  long_refused : {us : List ℕ} {u : ℕ} → Enumerated S us → FirstLong S us u → work_from S table us ≡ refuse (LongList u) (cleared table)
  long_refused e (here {u = v} {us = vs} l) = work_long S table v vs ((long_iff (first e)).0 l)
  long_refused e (later {u = v} {us = vs} l f) = work_fits S table v vs ((fits_iff (first e)).0 l) ∙ long_refused (rest e) f
  long_refused e (last l) = last_long S table ((long_iff e.last_one).0 l)

  pub worked : (us : List ℕ) → Enumerated S us → Worked S table us
  worked [] e = go (dec_lt LIST_WORDS (length (last_list_of S)))
    where
      go : Dec (LIST_WORDS < length (last_list_of S)) → Worked S table []
      go (yes l) = too_long (last ((long_iff e.last_one).1 l)) (last_long S table l)
      go (no n) = all_fit (λ u m. absurd (Memᴰ-not-nil m)) (omega arith) (last_fits S table (omega arith))
  worked (v ∷ vs) e = go (dec_lt LIST_WORDS (length (unit_list_of S v))) (worked vs (rest e))
    where
      each : length (unit_list_of S v) ≤ LIST_WORDS → ((u : ℕ) → List-as-Memᴰ u vs → length (unit_list_of S u) ≤ LIST_WORDS) → (u : ℕ)
          → (u ≡ v) ⊎ List-as-Memᴰ u vs → length (unit_list_of S u) ≤ LIST_WORDS
      each l f u (inl q) = subst (λ (x : ℕ). length (unit_list_of S x) ≤ LIST_WORDS) (sym q) l
      each l f u (inr m) = f u m

      below : length (unit_list_of S v) ≤ LIST_WORDS → Worked S table vs → Worked S table (v ∷ vs)
      below l (too_long f q) = too_long (later ((fits_iff (first e)).1 l) f) (work_fits S table v vs l ∙ q)
      below l (all_fit f k q) = all_fit (λ u m. each l f u (Memᴰ-cases_cons m)) k (work_fits S table v vs l ∙ q)

      go : Dec (LIST_WORDS < length (unit_list_of S v)) → Worked S table vs → Worked S table (v ∷ vs)
      go (yes l) w = too_long (here ((long_iff (first e)).1 l)) (work_long S table v vs l)
      go (no n) w = below (omega arith) w

-- the lists are in the table, each in its place
held : (S : Units) (table us : List ℕ) → S.units ≤ MAX_UNITS → TABLE_WORDS ≤ length table → ((u : ℕ) → u < S.units → List-as-Memᴰ u us)
    → ((u : ℕ) → List-as-Memᴰ u us → length (unit_list_of S u) ≤ LIST_WORDS) → length (last_list_of S) ≤ LIST_WORDS
    → Holding (list_at S) table (table_of S table) (list_counts S)
held S table us few long all each k =
    record { table_is = refl; counts_are = refl; small = λ i. go i (ℕ_discrete i LAST_COUNT) (dec_lt i S.units); long = long }
  where
    go : (i : ℕ) → Dec (i ≡ LAST_COUNT) → Dec (i < S.units) → length (list_at S i) ≤ LIST_WORDS
    go i (yes e) d = rw (e, list_last S) k
    go i (no n) (yes l) = rw (list_there S i few l) (each i (all i l))
    go i (no n) (no m) = rw (list_absent S i n (omega arith)) (omega arith)

-- ---- the demand

-- the answer of a plan whose lists all fit
abbrev all_listed_lem : Units → List ℕ → Answer
all_listed_lem S table = record { outcome = Accepted; counts = list_counts S; table = table_of S table }

module _ (bytes table : List ℕ) (all : All IsByte bytes) (passed : Passed bytes table) where
  abbrev S : Units
  S = units_of (reading bytes).plan

  abbrev order : List ℕ
  order = working_order S

  pub few : S.units ≤ MAX_UNITS
  unfolding units_of
  few = (record_fits bytes).units_fit

  pub enumerated : Enumerated S order
  unfolding units_of
  enumerated = record {
    each = λ u m. unit_list_of_lem S passed.passes passed.passes.given_free (record_fits bytes).rules_fit u
        (order_only S passed.passes.acyclic u m);
    last_one = last_list_of_lem S passed.passes passed.passes.given_free (plan_clean bytes all passed.reads) (record_fits bytes).rules_fit;
  }

  pub unit_list_is : (u : ℕ) → u < S.units → ListOf (Listed S u) (unit_list_of S u)
  unit_list_is u l = enumerated.each u (order_each S passed.passes.acyclic u l)

  pub last_list_is : ListOf (Shown S) (last_list_of S)
  last_list_is = enumerated.last_one

  pub answer_is : answer bytes table ≡ unit_work S table
  answer_is =
      read_answer bytes table passed.long passed.reads
      ∙ unless_accepted table (unit_work S table) (verdict_of_passes S passed.passes)

  all_held : ((u : ℕ) → List-as-Memᴰ u order → length (unit_list_of S u) ≤ LIST_WORDS) → length (last_list_of S) ≤ LIST_WORDS
      → Holding (list_at S) table (table_of S table) (list_counts S)
  all_held = held S table order few passed.long (order_each S passed.passes.acyclic)

  -- what is handed back
  module _ {r : Listing} {table' : List ℕ} (h : Handed (answer bytes table) r table') where
    outcome_is : {a : Answer} → unit_work S table ≡ a → r.outcome ≡ a.outcome
    outcome_is e = h.outcome_is ∙ ap (λ (x : Answer). x.outcome) (answer_is ∙ e)

    lists_held : Holding (list_at S) table (table_of S table) (list_counts S) → unit_work S table ≡ all_listed_lem S table
        → Holding (list_at S) table table' r.counts
    lists_held k e = record {
      table_is = h.table_is ∙ ap (λ (a : Answer). a.table) (answer_is ∙ e);
      counts_are = h.counts_are ∙ ap (λ (a : Answer). a.counts) (answer_is ∙ e);
      small = k.small;
      long = k.long;
    }

    pub accepted_held : r.outcome ≡ Accepted → Holding (list_at S) table table' r.counts
    accepted_held e = go (worked table order enumerated)
      where
        go : Worked S table order → Holding (list_at S) table table' r.counts
        go (too_long {u = u} f q) = absurd (not_accepted (LongList u) (sym e ∙ outcome_is q))
        go (all_fit f k q) = lists_held (all_held f k) q

    lists_all : Holding (list_at S) table table' r.counts → r.outcome ≡ Accepted → ListsComplete (reading bytes).plan r table'
    unfolding units_of
    lists_all k e =
        let p = (reading bytes).plan in
        let last = held_list k LAST_COUNT (omega arith) ∙ list_last S in
        let sets = last_list S passed.passes (looks_only p) passed.passes.given_free (plan_clean bytes all passed.reads) in
        record {
          accepted = e;
          units = λ u l. subst (ListOf (Listed S u)) (sym (held_list k u (omega (arith, few)) ∙ list_there S u few l)) (unit_list_is u l);
          rising = subst Rising (sym last) enumerated.last_one.rising;
          members = λ X.
              subst (λ (l : List ℕ). List-as-Memᴰ X l ↔ CutOf p.once.shown.word (Settles p) X)
              (sym last) (
                λ m. cut_for (λ M. (sets M).0) ((enumerated.last_one.members X).0 m),
                λ a. (enumerated.last_one.members X).1 (cut_for (λ M. (sets M).1) a),
              );
          counted = ap length (held_list k LAST_COUNT (omega arith)) ∙ sym (held_count k LAST_COUNT (omega arith));
        }

    complete : Complete (reading bytes).plan r table'
    complete = record {
      order = order;
      in_order = order_right S passed.passes.acyclic;
      fifteen = λ u. (
        λ e. refused u ((refused_by (LongList u)).0 e) (worked table order enumerated),
        λ f. (refused_by (LongList u)).1 (outcome_is (long_refused table enumerated f)),
      );
      otherwise = λ none. fits none (worked table order enumerated);
    }
      where
        refused : (u : ℕ) → r.outcome ≡ Refused (LongList u) → Worked S table order → FirstLong S order u
        refused u e (too_long {u = v} f q) =
            let same : v ≡ u = let z = outcome_is q in cc in
            subst (FirstLong S order) same f
        refused u e (all_fit f k q) = absurd (not_accepted (LongList u) (sym (outcome_is q) ∙ e))

        fits : ((u : ℕ) → ¬ FirstLong S order u) → Worked S table order → ListsComplete (reading bytes).plan r table'
        fits none (too_long {u = v} f q) = absurd (none v f)
        fits none (all_fit f k q) = lists_all (lists_held (all_held f k) q) (outcome_is q)

pub demand_3 : (bytes table : List ℕ) → All IsByte bytes → (r : Listing) (table' : List ℕ) → Handed (answer bytes table) r table'
    → Demand3 bytes table r table'
demand_3 bytes table all r table' h =
    record { complete = λ reads passes long. complete bytes table all (record { long = long; reads = reads; passes = passes }) h }
