-- What the number tells a host of a sheet, from what `judge_sheet` promises.
use Rattle.exports.proofs.Prelude.{◌≡◌, ap, sym, ◌∙◌, subst, ◌↔◌, List, ℕ, ◌+◌, ◌*◌, ◌≤◌, ◌<◌, arith, dec_lt, length, CODE_STEP, Plan, IsByte, All}
use Rattle.exports.proofs.Prelude.{Contents, record_of, Lays, Stopped, ReadPlan, reading_judged, sheet_code, AllSettle, FirstNot, PlacesRight}
use Rattle.exports.proofs.Prelude.{all_settled, first_not, Err, SheetRight, SheetJudged, lays_read, lays_accepted, SheetJudgeHanded}
use Rattle.judge.specs.JudgedSheets.{SheetAnswer}
use Rattle.judge.specs.declared.sheet.SheetFault.TheVariants.{BadSheet}
use Rattle.exports.proofs.ExportedSpots.{stopped_at_most, code_exact}

-- ---- a number tells which it is

module _ {p : Plan} {ps : List ℕ} (few : length ps ≤ 256) where
  told_all : {r : ℕ} {answer : SheetAnswer} → PlacesRight p ps answer → r ≡ sheet_code answer → (r ≡ 256) ↔ AllSettle p ps
  told_all (all_settled a) e = (λ _. a, λ _. e)
  told_all (first_not f) e = (λ full. absurd (omega (arith, f.within)), λ a. absurd (f.not_here (a.each _ f.within)))

  -- there is one first place
  first_is_one : {a b : ℕ} → FirstNot p ps a → FirstNot p ps b → a ≡ b
  first_is_one {a} {b} f g = go (dec_lt a b) (dec_lt b a)
    where
      go : Dec (a < b) → Dec (b < a) → a ≡ b
      go (yes l) d = absurd (f.not_here (g.each_before a l))
      go (no l) (yes k) = absurd (g.not_here (f.each_before b k))
      go (no l) (no k) = omega arith

  told_first : {r : ℕ} {answer : SheetAnswer} (place : ℕ) → PlacesRight p ps answer → r ≡ sheet_code answer
      → ((place < 256) × (r ≡ place)) ↔ FirstNot p ps place
  told_first place (all_settled a) e = (λ q. absurd (omega (arith, q.0, q.1)), λ f. absurd (f.not_here (a.each place f.within)))
  told_first place (first_not f) e = (λ q. subst (FirstNot p ps) (sym e ∙ q.1) f, λ g. (omega (arith, g.within), e ∙ first_is_one f g))

-- ---- what is handed back

module _ (bytes sheet : List ℕ) {r : ℕ} {answer : SheetAnswer} (small : All IsByte bytes) (e : r ≡ sheet_code answer) (j : SheetJudged bytes sheet answer)
  where
    refused : (n s : ℕ) → Stopped bytes n s → r ≡ CODE_STEP * n + s
    refused n s st =
        let x = ((reading_judged bytes small).refused n s).1 st in
        e ∙ ap sheet_code (j.answered.refused x.fault x.is) ∙ code_exact x (stopped_at_most small st)

    right : (c : Contents) → Lays bytes c → SheetRight (Err BadSheet) PlacesRight sheet (record_of c) answer
    right c l = subst (λ (x : ReadPlan). SheetRight (Err BadSheet) PlacesRight sheet x.plan answer) (lays_read l) (j.answered.right (lays_accepted l))

    pub sheet_judge_handed : SheetJudgeHanded bytes sheet r
    sheet_judge_handed = record {
      code_is = e ∙ ap sheet_code j.answered.is;
      refused = refused;
      no_sheet = λ c l n. e ∙ ap sheet_code ((right c l).no_sheet n);
      laid = j.laid;
      all_settled = λ c l ps laid. told_all laid.few ((right c l).of_sheet ps laid) e;
      first_not = λ c l ps laid place. told_first laid.few place ((right c l).of_sheet ps laid) e;
      meaning = j.answered.meaning;
    }
