-- What code and words tell a host of a question to a plan, from what the question's function promises.
use Rattle.exports.proofs.Prelude.{◌≡◌, ap, ◌∙◌, subst, List, ℕ, refusal_code, Plan, IsByte, All, ReadPlan, reading_judged, lays_read, lays_accepted}
use Rattle.exports.proofs.Prelude.{Reply, Replied}
use Rattle.plan.specs.declared.fault.Fault.{Fault}
use Rattle.plan_meaning.specs.Asked.{asked, Answered}
use Rattle.exports.proofs.ExportedSpots.{stopped_at_most, code_exact}

-- the variant that was told
pub replies : {A : Type 0} {code : A → ℕ} {left : A → List ℕ → List ℕ} {said x : A} {words words' : List ℕ} {r : ℕ} → said ≡ x → r ≡ code x
    → words' ≡ left x words → Reply code left said words words' r
replies e c w = rw e (record { code_is = c; words_are = w })

module _ {A : Type 0} {code : A → ℕ} {left : A → List ℕ → List ℕ} {refuse : Fault → A} {answer : Plan → A} {Right : Plan → A → Type 0} (bytes : List ℕ)
    {words words' : List ℕ} {r : ℕ} {said : A} (coded : (f : Fault) → code (refuse f) ≡ refusal_code f) (kept : (f : Fault) → left (refuse f) words ≡ words)
    (small : All IsByte bytes) (a : Answered refuse answer Right bytes said) (t : Reply code left said words words' r) where
  pub replied : Replied code left Right (asked refuse answer bytes) bytes words words' r
  replied = record {
    computed = subst (λ (y : A). Reply code left y words words' r) a.is t;
    right = λ c l. (said, subst (λ (y : ReadPlan). Right y.plan said) (lays_read l) (a.right (lays_accepted l)), t);
    refused = λ n s st.
        let x = ((reading_judged bytes small).refused n s).1 st in
        let e = a.refused x.fault x.is in (
          t.code_is ∙ ap code e ∙ coded x.fault ∙ code_exact x (stopped_at_most small st),
          t.words_are ∙ ap (λ (y : A). left y words) e ∙ kept x.fault,
        );
  }
