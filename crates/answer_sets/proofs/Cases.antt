-- Which case of a computing definition the tests of the code pick: the answers' equations come in the order of the code.
use Rattle.answer_sets.proofs.Prelude.{◌≡◌, refl, sym, ◌∙◌, Bool, true, false, not, false≢true, inl, inr, ℕ, not-true, not-false, subset, apart, ◌∖◌}
use Rattle.answer_sets.proofs.Prelude.{atom, decides_subset, Program, body, satisfies, satisfies_all, kept, kept_if, some_smaller, answer_set, SmallerSet}
use Rattle.answer_sets.proofs.Prelude.{RefutedBy, TestDue, TestSettled, ◌<◌, ◌^◌, ATOMS, decided_true, decided_false, not_is_true, true_of_not_false}
use Rattle.std.proofs.Common.{Option, Some, None, is_some}
use Rattle.answer_sets.specs.SubsetTest.{Unsatisfied}
use Rattle.answer_sets.proofs.JudgedSets.{decides_all_satisfied, kept_fits}

-- ---- one rule

module _ (P : Program) (r M : ℕ) {b : Bool} (tested : b ≡ body P r M) where
  pub satisfies_fails : not b ≡ true → true ≡ satisfies P r M
  unfolding satisfies
  satisfies_fails e = simp (sym tested, not-true b e)

  pub satisfies_holds : {h : ℕ} {free : Bool} → not b ≡ false → h ≡ P.head r → free ≡ apart h M → not free ≡ satisfies P r M
  unfolding satisfies
  satisfies_holds e m a = simp (sym tested, not-false b e, a, m)

  pub kept_if_holds : (word : ℕ) → b ≡ true → word ≡ kept_if P r M word
  unfolding kept_if
  kept_if_holds word e = rw (sym tested ∙ e, kept_if)

  pub kept_if_fails : (word : ℕ) → b ≡ false → word ∖ atom r ≡ kept_if P r M word
  unfolding kept_if
  kept_if_fails word e = rw (sym tested ∙ e, kept_if)

-- ---- the rules of a word

-- the position satisfies all where none was found that it does not
pub all_unless_found : (P : Program) (which M : ℕ) {none : Bool} (found : Option ℕ) → which < 2 ^ ATOMS → Unsatisfied P which M found
    → is_some found ≡ not none → none ≡ satisfies_all P which M
all_unless_found P which M {none} None fits all e =
    true_of_not_false none (λ f. false≢true (e ∙ (not_is_true none).1 f)) ∙ sym (decided_true (decides_all_satisfied P which M fits) all)
all_unless_found P which M {none} (Some r) fits u e =
    (not_is_true none).0 (sym e) ∙ sym (decided_false (decides_all_satisfied P which M fits) (λ all. u.1 (all.each r u.0)))

-- ---- the answer-set test

module _ (P : Program) (which facts M : ℕ) {f : Bool} (has-facts : f ≡ subset facts M) where
  pub no_facts : not f ≡ true → false ≡ answer_set P which facts M
  unfolding answer_set
  no_facts e = simp (sym has-facts, not-true f e)

  pub refuted_facts : not f ≡ true → RefutedBy P which facts M false M
  refuted_facts e = record {
    refuted = λ g. inl (refl, λ k. (decides_subset facts M).no (sym has-facts ∙ not-true f e) k.0);
    none = λ g. absurd (false≢true g);
  }

  pub unmet_facts : not f ≡ true → TestSettled P which facts M
  unmet_facts e = record { answers = sym (no_facts e); refuted = refuted_facts e }

  module _ {word : ℕ} {model : Bool} (e : not f ≡ false) (keeps : word ≡ kept P which M) (tested : model ≡ satisfies_all P word M) where
    pub no_model : not model ≡ true → false ≡ answer_set P which facts M
    unfolding answer_set
    no_model g = simp (sym has-facts, not-false f e, ← keeps, sym tested, not-true model g)

    pub refuted_model : not model ≡ true → RefutedBy P which facts M false M
    refuted_model g = record {
      refuted = λ h.
          inl (refl, λ k. (decides_all_satisfied P (kept P which M) M (kept_fits P which M)).no (sym (rw keeps at tested) ∙ not-true model g) k.1);
      none = λ h. absurd (false≢true h);
    }

    pub unmet_model : not model ≡ true → TestSettled P which facts M
    unmet_model g = record { answers = sym (no_model g); refuted = refuted_model g }

    pub met : not model ≡ false → TestDue P which facts M word
    met g = record { kept_is = keeps; has_facts = sym has-facts ∙ not-false f e; satisfied = sym tested ∙ not-false model g }

    pub model_judged : {smaller : Bool} → not model ≡ false → smaller ≡ some_smaller P word facts M → not smaller ≡ answer_set P which facts M
    unfolding answer_set
    model_judged g s = simp (sym has-facts, not-false f e, ← keeps, sym tested, not-false model g, s)

pub met_judged : {P : Program} {which facts M word : ℕ} {smaller : Bool} → TestDue P which facts M word → smaller ≡ some_smaller P word facts M
    → not smaller ≡ answer_set P which facts M
unfolding answer_set
met_judged m s = simp (m.has_facts, ← m.kept_is, m.satisfied, s)

pub refuted_smaller : {P : Program} {which facts M word set : ℕ} {smaller : Bool} → word ≡ kept P which M
    → SmallerSet P word facts M smaller set → RefutedBy P which facts M (not smaller) set
refuted_smaller {smaller = smaller} e s =
    let k = rw e at s in
    record { refuted = λ g. inr (k.shown (not-false smaller g)); none = λ g. k.none (not-true smaller g) }
