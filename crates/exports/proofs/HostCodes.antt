-- What the codes tell a host, from what the functions below promise.
use Rattle.exports.proofs.Prelude.{◌≡◌, refl, ap, ◌∙◌, ◌↔◌, Bool, true, false, List, ℕ, ◌+◌, ◌*◌, arith, CODE_STEP, IsByte, All, Contents, Lays}
use Rattle.exports.proofs.Prelude.{Stopped, record_fits, reading_judged, PlanAnswerSet, settled, Err, Ok, settled_in, judged, judge_code, FirstFault}
use Rattle.exports.proofs.Prelude.{lays_accepted, outcome_code, JudgeHanded}
use Rattle.atoms.specs.Bounded.{Decides}
use Rattle.atoms.proofs.Tests.{decides_iff}
use Rattle.plan.specs.Faults.{Accepted}
use Rattle.reading.specs.Reading.{reading}
use Rattle.plan_meaning.proofs.AskedPlans.{asked_accepted, asked_refused}
use Rattle.judge.proofs.Settled.{decides_settled}
use Rattle.plan_meaning.proofs.AnswerSetsMean.{read_means}
use Rattle.demands.specs.Promised.{Promised}
use Rattle.demands.specs.declared.listing.Listing.{Listing}
use Rattle.exports.proofs.ExportedSpots.{stopped_at_most, fault_at_most, code_exact}

-- ---- a listing

pub listed_code : (listing : Listing) {r : ℕ} → r ≡ outcome_code listing.outcome → listing.outcome ≡ Accepted → r ≡ 0
listed_code listing e a = e ∙ ap outcome_code a

pub refused_code_lem : {bytes table : List ℕ} (listing : Listing) {table' : List ℕ} {r : ℕ} → r ≡ outcome_code listing.outcome → All IsByte bytes
    → Promised bytes table listing table' → (n s : ℕ) → FirstFault bytes table n s → r ≡ CODE_STEP * n + s
refused_code_lem listing e small p n s f =
    let x = (p.demand_1.refuses n s).1 f in e ∙ ap outcome_code x.is ∙ code_exact x (fault_at_most small f)

-- ---- a judged position

-- a code of yes or no tells which it is
told_yes : {P : Type 0} {r : ℕ} (b : Bool) → Decides P b → r ≡ judge_code (Ok b) → (r ≡ 1) ↔ P
told_yes true d e = (λ _. d.yes refl, λ _. e)
told_yes false d e = (λ one. absurd (omega arith), λ p. absurd (d.no refl p))

told_no : {P : Type 0} {r : ℕ} (b : Bool) → Decides P b → r ≡ judge_code (Ok b) → (r ≡ 0) ↔ (¬ P)
told_no true d e = (λ none. absurd (omega arith), λ n. absurd (n (d.yes refl)))
told_no false d e = (λ _. d.no refl, λ _. e)

module _ (bytes : List ℕ) (position : ℕ) {r : ℕ} (small : All IsByte bytes) (e : r ≡ judge_code (judged bytes position)) where
  module _ (c : Contents) (l : Lays bytes c) where
    decided : Decides (PlanAnswerSet c position) (settled (reading bytes).plan position)
    decided =
        let same = (read_means bytes).of_read c l position in
        decides_iff same.0 same.1 (decides_settled (reading bytes).plan position (record_fits bytes))

    coded : r ≡ judge_code (Ok (settled (reading bytes).plan position))
    coded = e ∙ ap judge_code (asked_accepted Err (settled_in position) bytes (lays_accepted l))

  judged_code : (n s : ℕ) → Stopped bytes n s → r ≡ CODE_STEP * n + s
  judged_code n s st =
      let x = ((reading_judged bytes small).refused n s).1 st in
      e ∙ ap judge_code (asked_refused Err (settled_in position) bytes x.fault x.is) ∙ code_exact x (stopped_at_most small st)

  pub judge_handed : JudgeHanded bytes position r
  judge_handed = record {
    code_is = e;
    settled = λ c l. told_yes (settled (reading bytes).plan position) (decided c l) (coded c l);
    not_settled = λ c l. told_no (settled (reading bytes).plan position) (decided c l) (coded c l);
    refused = judged_code;
  }
