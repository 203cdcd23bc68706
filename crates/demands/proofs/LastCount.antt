-- The last count is at most 256, whatever the plan and the table.
use Rattle.std.specs.Prelude.{Ok, Err}
use Rattle.demands.proofs.Prelude.{◌≡◌, refl, sym, ap, ◌∙◌, subst, List, [], ◌∷◌, ℕ, ◌≤◌, ◌<◌, arith, dec_lt, length, get_or, get_or_tabulate, LIST_WORDS}
use Rattle.demands.proofs.Prelude.{COUNTS, LAST_COUNT, Outcome, reading, Units, units_of, verdict, working_order, unit_list_of, last_list_of}
use Rattle.demands.proofs.Prelude.{list_at, counts_with, list_counts, no_counts_of, Answer, unless_refused, work_from, after_graph, table_outcome, answer}
use Rattle.demands.proofs.HeldLists.{list_last}
use Rattle.demands.proofs.Answers.{work_fits, work_long, last_fits, last_long}

record Small (a : Answer) : Type 0 where
  at_most : get_or a.counts LAST_COUNT 0 ≤ LIST_WORDS

small_is : {a b : Answer} → a ≡ b → Small b → Small a
small_is e s = subst Small (sym e) s

none_counted : (a : Answer) → a.counts ≡ no_counts_of → Small a
unfolding no_counts_of
none_counted a e = record { at_most = subst (λ (c : List ℕ). get_or c LAST_COUNT 0 ≤ LIST_WORDS) (sym e) (omega arith) }

pub last_count : (S : Units) → get_or (list_counts S) LAST_COUNT 0 ≡ length (last_list_of S)
unfolding counts_with
last_count S = get_or_tabulate COUNTS (λ i. length (list_at S i)) LAST_COUNT (omega arith) ∙ ap length (list_last S)

all_counted : (S : Units) (a : Answer) → a.counts ≡ list_counts S → length (last_list_of S) ≤ LIST_WORDS → Small a
all_counted S a e h = record {
  at_most = subst (λ (k : ℕ). k ≤ LIST_WORDS) (sym (ap (λ (c : List ℕ). get_or c LAST_COUNT 0) e ∙ last_count S)) h;
}

work_small : (S : Units) (table us : List ℕ) → Small (work_from S table us)
work_small S table [] = go (dec_lt LIST_WORDS (length (last_list_of S)))
  where
    go : Dec (LIST_WORDS < length (last_list_of S)) → Small (work_from S table [])
    go (yes l) = small_is (last_long S table l) (none_counted _ refl)
    go (no n) = small_is (last_fits S table (omega arith)) (all_counted S _ refl (omega arith))
work_small S table (u ∷ us) = go (dec_lt LIST_WORDS (length (unit_list_of S u))) (work_small S table us)
  where
    go : Dec (LIST_WORDS < length (unit_list_of S u)) → Small (work_from S table us) → Small (work_from S table (u ∷ us))
    go (yes l) rec = small_is (work_long S table u us l) (none_counted _ refl)
    go (no n) rec = small_is (work_fits S table u us (omega arith)) rec

unless_small : (o : Outcome) (table : List ℕ) (next : Answer) → Small next → Small (unless_refused o table next)
unfolding unless_refused
unless_small (Err f) table next s = none_counted _ refl
unless_small (Ok u) table next s = s

answer_small : (bytes table : List ℕ) → Small (answer bytes table)
unfolding answer
answer_small bytes table =
    let S = units_of (reading bytes).plan in
    unless_small (table_outcome table) table (unless_refused (reading bytes).outcome table (after_graph S table))
    (unless_small (reading bytes).outcome table (after_graph S table)
    (unless_small (verdict S) table (work_from S table (working_order S)) (work_small S table (working_order S))))

pub last_count_at_most : (bytes table : List ℕ) → get_or (answer bytes table).counts LAST_COUNT 0 ≤ LIST_WORDS
last_count_at_most bytes table = (answer_small bytes table).at_most
