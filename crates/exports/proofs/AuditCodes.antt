-- What code and word tell a host of what a sheet lacks, from what `first_missing` promises; and with S-12 that its positions are just the answer sets.
use Rattle.exports.proofs.Prelude.{◌≡◌, refl, ap, ◌∙◌, subst, ◌↔◌, List, List-as-Memᴰ, ℕ, arith, Plan, IsByte, All, Contents, record_of, Lays, ReadPlan}
use Rattle.exports.proofs.Prelude.{PlanAnswerSet, Settles, Laid, SheetRight, lays_read, lays_accepted, SheetJudgeHanded, Reply, Err}
use Rattle.atoms.proofs.Lists.{member_get_or, index_of}
use Rattle.auditing.specs.Audit.{Audit, IsFull, AuditRight, is_full, lacks_first, Audited, audit_code}
use Rattle.judge.specs.declared.sheet.SheetFault.TheVariants.{BadSheet}
use Rattle.exports.specs.Audits.{lack_in, MissingHanded}
use Rattle.exports.proofs.HostReplies.{replied}

-- ---- what is handed over

-- 0 tells that the sheet is full
told_full : {p : Plan} {ps : List ℕ} {answer : Audit} {r : ℕ} → AuditRight p ps answer → r ≡ audit_code answer → (r ≡ 0) ↔ IsFull p ps
told_full (is_full f) e = (λ _. f, λ _. e)
told_full (lacks_first m) e = (λ z. absurd (omega arith), λ f. absurd (m.missing (f.each _ m.settles)))

module _ (bytes sheet : List ℕ) {found found' : List ℕ} {r : ℕ} {said : Audit} (small : All IsByte bytes) (a : Audited bytes sheet said)
    (t : Reply audit_code lack_in said found found' r) where
  right : (c : Contents) → Lays bytes c → SheetRight (Err BadSheet) AuditRight sheet (record_of c) said
  right c l = subst (λ (y : ReadPlan). SheetRight (Err BadSheet) AuditRight sheet y.plan said) (lays_read l) (a.answered.right (lays_accepted l))

  pub missing_handed : MissingHanded bytes sheet found found' r
  missing_handed = record {
    replied = replied bytes (λ _. refl) (λ _. refl) small a.answered t;
    full = λ c l ps laid. told_full ((right c l).of_sheet ps laid) t.code_is;
    no_sheet = λ c l n.
        let e = (right c l).no_sheet n in
        (t.code_is ∙ ap audit_code e, t.words_are ∙ ap (λ (y : Audit). lack_in y found) e);
    laid = a.laid;
    meaning = a.answered.meaning;
  }

-- ---- with S-12

-- 256 from the one and 0 from the other exactly if the sheet's positions are, as a set, the answer sets of the plan's rules and given facts
pub exact_handed : {bytes sheet found found' : List ℕ} {judged missing : ℕ} → SheetJudgeHanded bytes sheet judged
    → MissingHanded bytes sheet found found' missing → (c : Contents) → Lays bytes c → (ps : List ℕ) → Laid ps sheet
    → ((judged ≡ 256) × (missing ≡ 0)) ↔ ((M : ℕ) → List-as-Memᴰ M ps ↔ PlanAnswerSet c M)
exact_handed j m c l ps laid =
    let all = j.all_settled c l ps laid in
    let full = m.full c l ps laid in
    let means = m.meaning.of_lists c l in (
      λ q M. (
        λ k. let p = index_of ps M k in (means M).0 (subst (Settles (record_of c)) p.2 ((all.0 q.0).each p.0 p.1)),
        λ s. (full.0 q.1).each M ((means M).1 s),
      ),
      λ f. (
        all.1 (record { each = λ place k. (means _).1 ((f _).0 (member_get_or ps place k)) }),
        full.1 (record { each = λ M s. (f M).1 ((means M).0 s) }),
      ),
    )
