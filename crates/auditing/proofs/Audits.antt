-- What a sheet lacks, from its words; and with S-12 whether its positions are just the answer sets.
use Rattle.auditing.proofs.Prelude.{◌≡◌, refl, sym, ap, ◌∙◌, subst, Bool, true, false, true≢false, false≢true, ◌↔◌, inl, List, List-as-Memᴰ, ℕ, suc, ◌+◌}
use Rattle.auditing.proofs.Prelude.{◌-◌, ◌≤◌, ◌<◌, arith, ℕ_discrete, ltb, eqb, length, get_or, set, take, drop, length-take, get_or-take, get_or-set_same}
use Rattle.auditing.proofs.Prelude.{get_or-set_other, ltb-true, ltb-false, IsByte, All, refused_answered, read_fits, added_iff}
use Rattle.atoms.specs.Bounded.{Decides}
use Rattle.atoms.specs.Collected.{lowest}
use Rattle.atoms.proofs.Tests.{decides, decides_equal, decides_iff, decided, decided_true}
use Rattle.atoms.proofs.Bounded.{decides_some}
use Rattle.atoms.proofs.Lists.{member_get_or, index_of}
use Rattle.plan.specs.Record.{Fitting}
use Rattle.plan.specs.declared.record.Plan.{Plan}
use Rattle.plan.specs.declared.fault.Fault.{Fault}
use Rattle.plan.specs.Faults.{Accepted}
use Rattle.reading.specs.Reading.{accepted, reading, refused}
use Rattle.plan_meaning.specs.Settled.{Settles, settled}
use Rattle.judge.specs.JudgedSheets.{MAX_POSITIONS, bad_bytes, positions_in, position_at, Laid, SheetJudged, PlacesRight as SheetRight, all_settled, first_not}
use Rattle.judge.specs.JudgedSheets.{SheetAnswer, sheet_code, unread}
use Rattle.judge.specs.declared.sheet.SheetFault.TheVariants.{BadSheet}
use Rattle.judge.proofs.Settled.{decides_settled}
use Rattle.judge.proofs.JudgedSheets.{decides_no_sheet, laid_count, laid_at, sheet_laid, bad_answered, sheet_answered}
use Rattle.finding.specs.Least.{LeastOf, least, none as no-least, from_start}
use Rattle.finding.specs.Gather.{Added, Sought}
use Rattle.finding.proofs.Leasts.{least_only, lowest_met, lowest_missed}
use Rattle.stepping.specs.Followed.{may_be_up}
use Rattle.stepping.proofs.Nexts.{may_be_up_lem}
use Rattle.auditing.specs.Audit.{OnSheet, WordsRead, on_sheet, lacking, missing_in, IsFull, AuditRight, is_full, lacks_first, Audited, Audit, lack_of}
use Rattle.std.specs.declared.option.Option.{Option}
use Rattle.std.specs.declared.option.Option.TheVariants.{None, Some}
use Rattle.std.specs.declared.result.Result.TheVariants.{Err, Ok}

-- ---- the words of a sheet

-- the words before this place are read
pub record WordsBefore (sheet words : List ℕ) (place : ℕ) : Type 0 where
  pub each : (q : ℕ) → q < place → get_or words q 0 ≡ position_at sheet q

pub words_more : (sheet words : List ℕ) (place : ℕ) {w : ℕ} → place < length words → WordsBefore sheet words place → w ≡ position_at sheet place
    → WordsBefore sheet (set words place w) (place + 1)
words_more sheet words place {w} l r e = record { each = λ q k. go q k (ℕ_discrete q place) }
  where
    go : (q : ℕ) → q < place + 1 → Dec (q ≡ place) → get_or (set words place w) q 0 ≡ position_at sheet q
    go q k (yes h) = rw h (get_or-set_same words place w 0 l ∙ e)
    go q k (no h) = get_or-set_other words place q w 0 h ∙ r.each q (omega arith)

module _ {sheet words : List ℕ} {count : ℕ} (w : WordsRead sheet words count) where
  words_long : length (take count words) ≡ count
  words_long = length-take count words ∙ (omega (arith, w.room))

  word_at : (place : ℕ) → place < count → get_or (take count words) place 0 ≡ position_at sheet place
  word_at place l = get_or-take count words place 0 l ∙ w.each place l

  words_on : (M : ℕ) → List-as-Memᴰ M (take count words) → OnSheet sheet M
  words_on M m =
      let p = index_of (take count words) M m in
      let l : p.0 < count = omega (arith, p.1, words_long) in
      record { place = p.0; within = omega (arith, w.all); is = sym (word_at p.0 l) ∙ p.2 }

  on_words : (M : ℕ) → OnSheet sheet M → List-as-Memᴰ M (take count words)
  on_words M o =
      let l : o.place < count = omega (arith, w.all, o.within) in
      subst (λ (x : ℕ). List-as-Memᴰ x (take count words)) (word_at o.place l ∙ o.is)
      (member_get_or (take count words) o.place (omega (arith, words_long)))

  -- the part that is lent
  part_is : take (count - 0) (drop 0 words) ≡ take count words
  part_is = let e : count - 0 ≡ count = omega arith in ap (λ (n : ℕ). take n words) e

  -- all that are sought from the start are those that are not on the sheet
  pub added_missing : (p : Plan) {before after : List ℕ} {r : ℕ}
      → Added (λ M. Settles p M × Sought None (take (count - 0) (drop 0 words)) M) before 0 after r
      → Added (λ M. Settles p M × ¬ OnSheet sheet M) before 0 after r
  added_missing p {before} {after} {r} a =
      added_iff (λ M q. (q.0, λ o. q.1.new (on_words M o)))
      (λ M q. (q.0, record { behind = from_start; new = λ h. q.1 (words_on M h) }))
      (subst (λ (l : List ℕ). Added (λ M. Settles p M × Sought None l M) before 0 after r) part_is a)

-- what is a sheet has at most 256 positions
pub sheet_few : (sheet : List ℕ) {t : Bool} → t ≡ bad_bytes (length sheet) → t ≡ false → positions_in sheet ≤ MAX_POSITIONS
sheet_few sheet t b = let n : ¬ (MAX_POSITIONS < positions_in sheet) = λ l. (decides_no_sheet sheet).no (sym t ∙ b) (inl l) in omega arith

-- ---- the definition, by what is the least that is missing

decides_on_sheet : (sheet : List ℕ) (M : ℕ) → Decides (OnSheet sheet M) (on_sheet sheet M)
decides_on_sheet sheet M =
    decides_iff (λ s. record { place = s.0; within = s.1; is = s.2 }) (λ o. (o.place, o.within, o.is))
    (decides_some (positions_in sheet) (λ place. eqb (position_at sheet place) M) (λ place _. decides_equal (position_at sheet place) M))

module _ (p : Plan) (fits : Fitting p) (sheet : List ℕ) where
  decides_lacking : (M : ℕ) → Decides (Settles p M × ¬ OnSheet sheet M) (lacking p sheet M)
  decides_lacking M = go (on_sheet sheet M) (decides_on_sheet sheet M)
    where
      go : (b : Bool) → Decides (OnSheet sheet M) b → Decides (Settles p M × ¬ OnSheet sheet M) (elim b [ true ↦ false | false ↦ settled p M ])
      go true d = decides false (λ e. absurd (false≢true e)) (λ q. absurd (q.1 (d.yes refl)))
      go false d = decides (settled p M) (λ e. ((decides_settled p M fits).yes e, d.no refl)) (λ q. decided_true (decides_settled p M fits) q.0)

  missing_is : {w : Option ℕ} → LeastOf (λ M. Settles p M × ¬ OnSheet sheet M) w → w ≡ missing_in p sheet
  unfolding missing_in
  missing_is {w} k = go (ltb M top) refl
    where
      top : ℕ
      top = suc (may_be_up p)

      M : ℕ
      M = lowest top (lacking p sheet)

      go : (b : Bool) → ltb M top ≡ b → w ≡ (elim b [ true ↦ Some M | false ↦ None ])
      go true e = least_only k (lowest_met (lacking p sheet) top decides_lacking (ltb-true M top e))
      go false e =
          least_only k (lowest_missed (lacking p sheet) top decides_lacking (ltb-false M top e) (λ N q. may_be_up_lem p N q.0))

-- ---- what the answer means

module _ {ps sheet : List ℕ} (laid : Laid ps sheet) where
  on_listed : (M : ℕ) → OnSheet sheet M → List-as-Memᴰ M ps
  on_listed M o =
      let l : o.place < length ps = omega (arith, laid_count laid, o.within) in
      subst (λ (x : ℕ). List-as-Memᴰ x ps) (sym (laid_at laid o.place l) ∙ o.is) (member_get_or ps o.place l)

  listed_on : (M : ℕ) → List-as-Memᴰ M ps → OnSheet sheet M
  listed_on M m =
      let p = index_of ps M m in
      record { place = p.0; within = omega (arith, laid_count laid, p.1); is = laid_at laid p.0 p.1 ∙ p.2 }

  found_right : {p : Plan} {w : Option ℕ} → LeastOf (λ N. Settles p N × ¬ OnSheet sheet N) w → AuditRight p ps (Ok w)
  found_right (least {M = M} q l) = lacks_first (record {
    settles = q.0;
    missing = λ a. q.1 (listed_on M a);
    lowest_one = λ N s n. l N (s, λ o. n (on_listed N o));
  })
  found_right {p} (no-least n) = is_full (record { each = λ M s. go M s (decided (decides_on_sheet sheet M)) })
    where
      go : (M : ℕ) → Settles p M → Dec (OnSheet sheet M) → List-as-Memᴰ M ps
      go M s (yes o) = on_listed M o
      go M s (no o) = absurd (n M (s, o))

-- ---- the answers of the code, from what reading, the test of the sheet and the search gave

module _ (bytes sheet : List ℕ) (small : All IsByte sheet) where
  pub refused_audited : {f : Fault} → refused f ≡ reading bytes → Audited bytes sheet (unread f)
  refused_audited read = record { answered = refused_answered bytes read refl refl; laid = sheet_laid sheet small }

  module _ {p : Plan} {t : Bool} (read : accepted p ≡ reading bytes) (bad-is : t ≡ bad_bytes (length sheet)) where
    pub bad_audited : t ≡ true → Audited bytes sheet (Err BadSheet)
    bad_audited b = record { answered = bad_answered bytes sheet read refl bad-is lack_of b; laid = sheet_laid sheet small }

    pub found_audited : {w : Option ℕ} → t ≡ false → LeastOf (λ N. Settles p N × ¬ OnSheet sheet N) w → Audited bytes sheet (Ok w)
    found_audited b found = record {
      answered = sheet_answered bytes sheet read refl bad-is lack_of b (ap Ok (missing_is p (read_fits bytes read) sheet found))
          (λ ps laid. found_right laid found);
      laid = sheet_laid sheet small;
    }

-- ---- with S-12

-- full is said exactly if each answer set is among the positions
pub full_iff : {p : Plan} {ps : List ℕ} {answer : Audit} → AuditRight p ps answer → (answer ≡ Ok None) ↔ IsFull p ps
full_iff {p} {ps} (is_full f) = (λ e. f, λ f'. refl)
full_iff {p} {ps} (lacks_first {M} m) = (λ e. absurd (true≢false (sym (ap says_full e))), λ f. absurd (m.missing (f.each M m.settles)))
  where
    says_full : Audit → Bool
    says_full (Ok None) = true
    says_full (Ok (Some N)) = false
    says_full (Err f) = false

module _ {p : Plan} {ps : List ℕ} (few : length ps ≤ MAX_POSITIONS) where
  -- 256 is said exactly if all positions are answer sets
  all_iff : {answer : SheetAnswer} → SheetRight p ps answer → (sheet_code answer ≡ MAX_POSITIONS) ↔ ((M : ℕ) → List-as-Memᴰ M ps → Settles p M)
  all_iff (all_settled a) = (
    λ e M m. let q = index_of ps M m in subst (Settles p) q.2 (a.each q.0 q.1),
    λ f. refl,
  )
  all_iff (first_not {place} n) = (
    λ e. absurd (omega (arith, n.within)),
    λ f. absurd (n.not_here (f _ (member_get_or ps place n.within))),
  )

-- a sheet is judged with 256 and found full exactly if its positions are, as a set, the answer sets of the plan
pub exact_sheet : {bytes sheet : List ℕ} {judged : SheetAnswer} {answer : Audit} → SheetJudged bytes sheet judged → Audited bytes sheet answer
    → (reading bytes).outcome ≡ Accepted → (ps : List ℕ) → Laid ps sheet
    → ((sheet_code judged ≡ MAX_POSITIONS) × (answer ≡ Ok None)) ↔ ((M : ℕ) → List-as-Memᴰ M ps ↔ Settles (reading bytes).plan M)
exact_sheet j a e ps l =
    let all = all_iff l.few ((j.answered.right e).of_sheet ps l) in
    let full = full_iff ((a.answered.right e).of_sheet ps l) in
    (λ q M. (all.0 q.0 M, (full.0 q.1).each M), λ f. (all.1 (λ M. (f M).0), full.1 (record { each = λ M. (f M).1 })))
