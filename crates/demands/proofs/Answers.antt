-- The answer place by place: which place refuses, and what unit work says list by list.
use Rattle.std.specs.Prelude.{Ok, Err}
use Rattle.demands.proofs.Prelude.{◌≡◌, refl, sym, ap, ap₂, ◌∙◌, true, false, List, [], ◌∷◌, ℕ, ◌≤◌, ◌<◌, arith, dec_lt, ltb, length, lt-ltb, le-ltb}
use Rattle.demands.proofs.Prelude.{LIST_WORDS, TABLE_WORDS, Fault, TableShort, LongList, Outcome, Accepted, Refused, reading, Units, Passes, verdict}
use Rattle.demands.proofs.Prelude.{units_of, passes_of_verdict, unit_list_of, last_list_of, list_at, table_of, list_counts, cleared, Answer, refuse}
use Rattle.demands.proofs.Prelude.{unless_refused}
use Rattle.demands.proofs.Prelude.{work_from, unit_work, after_graph, table_outcome, answer, refusal, Handed, Listing}
use Rattle.demands.proofs.HeldLists.{cleared_again, with_cleared}

-- ---- what is handed back

pub handed_refused : (f : Fault) {a : Answer} {r : Listing} {table table' : List ℕ} → a ≡ refuse f table → r ≡ refusal f → table' ≡ table
    → Handed a r table'
unfolding refusal
handed_refused f e h t = record {
  outcome_is = ap (λ (x : Listing). x.outcome) h ∙ sym (ap (λ (x : Answer). x.outcome) e);
  counts_are = ap (λ (x : Listing). x.counts) h ∙ sym (ap (λ (x : Answer). x.counts) e);
  table_is = t ∙ sym (ap (λ (x : Answer). x.table) e);
}

-- ---- the places before unit work

pub unless_refused_lem : {o : Outcome} (f : Fault) (table : List ℕ) (next : Answer) → o ≡ Refused f → unless_refused o table next ≡ refuse f table
unfolding unless_refused
unless_refused_lem f table next e = ap (λ (x : Outcome). unless_refused x table next) e

pub unless_accepted : {o : Outcome} (table : List ℕ) (next : Answer) → o ≡ Accepted → unless_refused o table next ≡ next
unfolding unless_refused
unless_accepted table next e = ap (λ (x : Outcome). unless_refused x table next) e

pub not_accepted : (f : Fault) → Accepted ≡ Refused f → ⊥
not_accepted f e = let z : ◌≡◌ {A = ℕ} 0 1 = cc in omega arith

unless_passes : (o : Outcome) (table : List ℕ) (next : Answer) → (unless_refused o table next).outcome ≡ Accepted
    → (o ≡ Accepted) × (next.outcome ≡ Accepted)
unfolding unless_refused
unless_passes (Err f) table next e = absurd (not_accepted f (sym e))
unless_passes (Ok u) table next e = (refl, e)

-- the answer of a long enough table
abbrev read : List ℕ → List ℕ → Answer
read bytes table = unless_refused (reading bytes).outcome table (after_graph (units_of (reading bytes).plan) table)

pub short_answer : (bytes table : List ℕ) → length table < TABLE_WORDS → answer bytes table ≡ refuse (TableShort (length table)) table
unfolding answer table_outcome
short_answer bytes table l = unless_refused_lem (TableShort (length table)) table (read bytes table) (rw (lt-ltb (length table) TABLE_WORDS l, table_outcome))

long_answer : (bytes table : List ℕ) → TABLE_WORDS ≤ length table → answer bytes table ≡ read bytes table
unfolding answer table_outcome
long_answer bytes table l = unless_accepted table (read bytes table) (rw (le-ltb (length table) TABLE_WORDS l, table_outcome))

pub refused_answer : (bytes table : List ℕ) (f : Fault) → TABLE_WORDS ≤ length table → (reading bytes).outcome ≡ Refused f
    → answer bytes table ≡ refuse f table
refused_answer bytes table f l e = long_answer bytes table l ∙ unless_refused_lem f table (after_graph (units_of (reading bytes).plan) table) e

pub read_answer : (bytes table : List ℕ) → TABLE_WORDS ≤ length table → (reading bytes).outcome ≡ Accepted
    → answer bytes table ≡ after_graph (units_of (reading bytes).plan) table
read_answer bytes table l e = long_answer bytes table l ∙ unless_accepted table (after_graph (units_of (reading bytes).plan) table) e

-- an accepted plan passed them all
pub record Passed (bytes table : List ℕ) : Type 0 where
  pub long : TABLE_WORDS ≤ length table
  pub reads : (reading bytes).outcome ≡ Accepted
  pub passes : Passes (units_of (reading bytes).plan)

pub accepted_passed : (bytes table : List ℕ) → (answer bytes table).outcome ≡ Accepted → Passed bytes table
accepted_passed bytes table e = go (dec_lt (length table) TABLE_WORDS)
  where
    go : Dec (length table < TABLE_WORDS) → Passed bytes table
    go (yes l) =
        absurd (not_accepted (TableShort (length table)) (sym e ∙ ap (λ (a : Answer). a.outcome) (short_answer bytes table l)))
    go (no n) =
        let l : TABLE_WORDS ≤ length table = omega arith in
        let S = units_of (reading bytes).plan in
        let r = unless_passes (reading bytes).outcome table (after_graph S table)
        (sym (ap (λ (a : Answer). a.outcome) (long_answer bytes table l)) ∙ e) in
        let v = unless_passes (verdict S) table (unit_work S table) r.1 in
        record { long = l; reads = r.0; passes = passes_of_verdict S v.0 }

-- ---- unit work

pub work_fits : (S : Units) (table : List ℕ) (u : ℕ) (us : List ℕ) → length (unit_list_of S u) ≤ LIST_WORDS
    → work_from S table (u ∷ us) ≡ work_from S table us
unfolding work_from
work_fits S table u us l = rw (le-ltb LIST_WORDS (length (unit_list_of S u)) l, work_from)

pub work_long : (S : Units) (table : List ℕ) (u : ℕ) (us : List ℕ) → LIST_WORDS < length (unit_list_of S u)
    → work_from S table (u ∷ us) ≡ refuse (LongList u) (cleared table)
unfolding work_from
work_long S table u us l = rw (lt-ltb LIST_WORDS (length (unit_list_of S u)) l, work_from)

pub last_fits : (S : Units) (table : List ℕ) → length (last_list_of S) ≤ LIST_WORDS
    → work_from S table [] ≡ record { outcome = Accepted; counts = list_counts S; table = table_of S table }
unfolding work_from
last_fits S table l = rw (le-ltb LIST_WORDS (length (last_list_of S)) l, work_from)

pub last_long : (S : Units) (table : List ℕ) → LIST_WORDS < length (last_list_of S) → work_from S table [] ≡ refuse (LongList S.units) (cleared table)
unfolding work_from
last_long S table l = rw (lt-ltb LIST_WORDS (length (last_list_of S)) l, work_from)

-- unit work looks at the table's words from 4,352 on alone
pub work_cleared : (S : Units) (table us : List ℕ) → work_from S (cleared table) us ≡ work_from S table us
unfolding work_from
work_cleared S table [] =
    ap₂ (λ (x y : List ℕ). elim (ltb LIST_WORDS (length (last_list_of S))) as (λ z. Answer) [
      | true ↦ refuse (LongList S.units) x
      | false ↦ record { outcome = Accepted; counts = list_counts S; table = y }
    ])
    (cleared_again table) (with_cleared (list_at S) table)
work_cleared S table (u ∷ us) =
    ap₂ (λ (x : List ℕ) (y : Answer). elim (ltb LIST_WORDS (length (unit_list_of S u))) as (λ z. Answer) [ true ↦ refuse (LongList u) x | false ↦ y ])
    (cleared_again table) (work_cleared S table us)
