-- Questions to a plan: what the frame says of a plan that is refused and of one that reads, and the answers of code, from what it read.
use Rattle.plan_meaning.proofs.Prelude.{◌≡◌, sym, ap, ◌∙◌, subst, List, ℕ, arith, Plan, reading, ReadPlan}
use Rattle.plan.specs.Record.{Fitting}
use Rattle.plan.specs.declared.fault.Fault.{Fault}
use Rattle.plan.specs.Faults.{Accepted, Outcome, Refused}
use Rattle.reading.proofs.Limits.{record_fits}
use Rattle.plan_meaning.specs.Asked.{asked, Answered}
use Rattle.plan_meaning.proofs.AnswerSetsMean.{read_means}

pub not_accepted : (f : Fault) → Accepted ≡ Refused f → ⊥
not_accepted f e = let z : ◌≡◌ {A = ℕ} 0 1 = cc in omega arith

module _ {A : Type 0} (refuse : Fault → A) (answer : Plan → A) (bytes : List ℕ) where
  pub asked_refused : (f : Fault) → (reading bytes).outcome ≡ Refused f → asked refuse answer bytes ≡ refuse f
  unfolding asked
  asked_refused f e = rw (e, asked)

  pub asked_accepted : (reading bytes).outcome ≡ Accepted → asked refuse answer bytes ≡ answer (reading bytes).plan
  unfolding asked
  asked_accepted e = rw (e, asked)

-- ---- the answers of code, from what reading gave

module _ (bytes : List ℕ) {r : ReadPlan} (read : r ≡ reading bytes) where
  pub outcome_is : {o : Outcome} → r.outcome ≡ o → (reading bytes).outcome ≡ o
  outcome_is e = sym (ap (λ (x : ReadPlan). x.outcome) read) ∙ e

  -- the record that was read is within the limits
  pub read_fits : Fitting r.plan
  read_fits = subst (λ (x : ReadPlan). Fitting x.plan) (sym read) (record_fits bytes)

  module _ {A : Type 0} {refuse : Fault → A} {answer : Plan → A} {Right : Plan → A → Type 0} where
    pub refused_answered : {f : Fault} {a : A} → r.outcome ≡ Refused f → a ≡ refuse f → Answered refuse answer Right bytes a
    refused_answered {f} e same =
        let is = same ∙ sym (asked_refused refuse answer bytes f (outcome_is e)) in
        record {
          is = is;
          refused = λ g o. is ∙ asked_refused refuse answer bytes g o;
          right = λ a. absurd (not_accepted f (sym a ∙ outcome_is e));
          meaning = read_means bytes;
        }

    pub accepted_answered : {a : A} → r.outcome ≡ Accepted → a ≡ answer r.plan → Right r.plan a → Answered refuse answer Right bytes a
    accepted_answered {a} e is right = record {
      is = is ∙ ap (λ (x : ReadPlan). answer x.plan) read ∙ sym (asked_accepted refuse answer bytes (outcome_is e));
      refused = λ f o. absurd (not_accepted f (sym (outcome_is e) ∙ o));
      right = λ _. subst (λ (x : ReadPlan). Right x.plan a) read right;
      meaning = read_means bytes;
    }
