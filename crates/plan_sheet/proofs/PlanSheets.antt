-- The sheet by the outcome, that an accepted plan came with a long enough table, and the greatest length of a sheet.
use Rattle.plan_sheet.proofs.Prelude.{◌≡◌, sym, ap, ◌∙◌, List, ℕ, ◌-◌, ◌^◌, ◌≤◌, ◌<◌, arith, dec_lt, length, take, drop, get_or, length-take, length-drop}
use Rattle.plan_sheet.proofs.Prelude.{take_all, LIST_WORDS, LAST_LIST, TABLE_WORDS, LAST_COUNT, Accepted, Refused, positions_sheet, refusal_sheet}
use Rattle.plan_sheet.proofs.Prelude.{Answer, answer, sheet_for, sheet_of, SHEET_BYTES}
use Rattle.plan.specs.Faults.{number, spot}
use Rattle.plan.specs.declared.fault.Fault.{Fault}
use Rattle.plan.specs.declared.fault.Fault.TheVariants.{TableShort}
use Rattle.plan.specs.Faults.{Outcome}
use Rattle.sheet.proofs.Sheets.{positions_at_most, refusal_at_most}
use Rattle.demands.proofs.Answers.{short_answer}
use Rattle.demands.proofs.LastCount.{last_count_at_most}

pub sheet_refused : (a : Answer) (f : Fault) → a.outcome ≡ Refused f → refusal_sheet (number f) (spot f) ≡ sheet_of a
unfolding sheet_of sheet_for
sheet_refused a f e = sym (ap (λ (o : Outcome). sheet_for o a.counts a.table) e)

pub sheet_listed : (a : Answer) → a.outcome ≡ Accepted → positions_sheet (take (get_or a.counts LAST_COUNT 0) (drop LAST_LIST a.table)) ≡ sheet_of a
unfolding sheet_of sheet_for
sheet_listed a e = sym (ap (λ (o : Outcome). sheet_for o a.counts a.table) e)

not_accepted : (f : Fault) → Refused f ≡ Accepted → ⊥
not_accepted f e = let z : ◌≡◌ {A = ℕ} 0 1 = cc in omega arith

pub accepted_long : (bytes table : List ℕ) → (answer bytes table).outcome ≡ Accepted → TABLE_WORDS ≤ length table
accepted_long bytes table e = go (dec_lt (length table) TABLE_WORDS)
  where
    go : Dec (length table < TABLE_WORDS) → TABLE_WORDS ≤ length table
    go (yes l) =
        absurd (not_accepted (TableShort (length table)) (sym (ap (λ (a : Answer). a.outcome) (short_answer bytes table l)) ∙ e))
    go (no n) = omega arith

-- the part of the table from 4,096 on
part_is : (table : List ℕ) → take (length table - LAST_LIST) (drop LAST_LIST table) ≡ drop LAST_LIST table
part_is table = take_all (length table - LAST_LIST) (drop LAST_LIST table) (omega (arith, length-drop LAST_LIST table))

-- the sheet of what an accepted plan gets
pub sheet_of_part : (a : Answer) (counts table : List ℕ) → counts ≡ a.counts → table ≡ a.table → a.outcome ≡ Accepted
    → positions_sheet (take (get_or counts LAST_COUNT 0) (take (length table - LAST_LIST) (drop LAST_LIST table))) ≡ sheet_of a
sheet_of_part a counts table e f h = rw (part_is table, e, f) (sheet_listed a h)

-- ---- no sheet is longer than SHEET_BYTES

pub refused_at_most : (a : Answer) (number spot : ℕ) → number < 2 ^ 64 → spot < 2 ^ 64 → refusal_sheet number spot ≡ sheet_of a
    → length (sheet_of a) ≤ SHEET_BYTES
refused_at_most a number spot h l e = omega (arith, ap length e, refusal_at_most number spot h l)

pub listed_at_most : (bytes table : List ℕ) → (answer bytes table).outcome ≡ Accepted → length (sheet_of (answer bytes table)) ≤ SHEET_BYTES
listed_at_most bytes table e =
    let a = answer bytes table in
    let words : List ℕ = take (get_or a.counts LAST_COUNT 0) (drop LAST_LIST a.table) in
    let few : length words ≤ LIST_WORDS =
    omega (arith, length-take (get_or a.counts LAST_COUNT 0) (drop LAST_LIST a.table), last_count_at_most bytes table) in
    omega (arith, ap length (sheet_listed a e), positions_at_most words few)
