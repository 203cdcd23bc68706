-- One row of the verdict: it fits where its word has a number, and otherwise the rows below are asked.
use Rattle.dependency_graph.proofs.Prelude.{◌≡◌, sym, ap, subst, ◌∙◌, ℕ, ◌<◌, eq-eqb, ne_eqb, ATOMS, Has, Lowest, has_none, lowest_of, lowest_of_lem, Fault}
use Rattle.dependency_graph.proofs.Prelude.{Outcome, Accepted, Refused, Units, fault_or, verdict, given_in_head, rule_in_no_unit, headed_rule_in_several, cycle}
use Rattle.dependency_graph.proofs.Prelude.{nonmonotonic_unseen, monotonic_unseen}
use Rattle.plan.specs.declared.fault.Fault.TheVariants.{GivenInHead, RuleInNoUnit, HeadedRuleInSeveral, Cycle, NonmonotonicUnseen, MonotonicUnseen}

pub row_misses : (w : ℕ) (f : ℕ → Fault) (v : Outcome) → w ≡ 0 → fault_or w f v ≡ v
unfolding fault_or
row_misses w f v e = rw (eq-eqb w 0 e, fault_or)

pub row_fits : (w : ℕ) (f : ℕ → Fault) (v : Outcome) → ¬ (w ≡ 0) → fault_or w f v ≡ Refused (f (lowest_of w))
unfolding fault_or
row_fits w f v n = rw (ne_eqb w 0 n, fault_or)

-- ---- as the code finds it

-- the word has a number: the row's fault at the lowest
row_found : (f : ℕ → Fault) (below : Outcome) {v w r : ℕ} → v ≡ w → Lowest v r × (r < ATOMS) → Refused (f r) ≡ fault_or w f below
row_found f below {v} {w} {r} e l =
    sym (row_fits w f below (λ z. has_none (subst (λ (x : ℕ). Has x r) (e ∙ z) l.0.here))
    ∙ ap (λ (q : ℕ). Refused (f q)) (ap lowest_of (sym e) ∙ lowest_of_lem v r l.0 l.1))

-- it has none: the rows below
row_passed : (f : ℕ → Fault) (below : Outcome) {v w : ℕ} → v ≡ w → v ≡ 0 → below ≡ fault_or w f below
row_passed f below {v} {w} e z = sym (row_misses w f below (sym e ∙ z))

-- ---- the rows in turn: a word with a number refuses, an empty one leads on

module _ (S : Units) {given : ℕ} (e₁ : given ≡ given_in_head S) where
  pub row_16_found : {r : ℕ} → Lowest given r × (r < ATOMS) → Refused (GivenInHead r) ≡ verdict S
  unfolding verdict
  row_16_found l = row_found _ _ e₁ l

  module _ (z₁ : given ≡ 0) {in-none : ℕ} (e₂ : in-none ≡ rule_in_no_unit S) where
    pub row_10_found : {r : ℕ} → Lowest in-none r × (r < ATOMS) → Refused (RuleInNoUnit r) ≡ verdict S
    unfolding verdict
    row_10_found l = row_found _ _ e₂ l ∙ row_passed _ _ e₁ z₁

    module _ (z₂ : in-none ≡ 0) {several : ℕ} (e₃ : several ≡ headed_rule_in_several S) where
      pub row_11_found : {r : ℕ} → Lowest several r × (r < ATOMS) → Refused (HeadedRuleInSeveral r) ≡ verdict S
      unfolding verdict
      row_11_found l = row_found _ _ e₃ l ∙ row_passed _ _ e₂ z₂ ∙ row_passed _ _ e₁ z₁

      module _ (z₃ : several ≡ 0) {cyclic : ℕ} (e₄ : cyclic ≡ cycle S) where
        pub row_12_found : {r : ℕ} → Lowest cyclic r × (r < ATOMS) → Refused (Cycle r) ≡ verdict S
        unfolding verdict
        row_12_found l = row_found _ _ e₄ l ∙ row_passed _ _ e₃ z₃ ∙ row_passed _ _ e₂ z₂ ∙ row_passed _ _ e₁ z₁

        module _ (z₄ : cyclic ≡ 0) {nonmonotonic : ℕ} (e₅ : nonmonotonic ≡ nonmonotonic_unseen S) where
          pub row_13_found : {r : ℕ} → Lowest nonmonotonic r × (r < ATOMS) → Refused (NonmonotonicUnseen r) ≡ verdict S
          unfolding verdict
          row_13_found l = row_found _ _ e₅ l ∙ row_passed _ _ e₄ z₄ ∙ row_passed _ _ e₃ z₃ ∙ row_passed _ _ e₂ z₂ ∙ row_passed _ _ e₁ z₁

          module _ (z₅ : nonmonotonic ≡ 0) {monotonic : ℕ} (e₆ : monotonic ≡ monotonic_unseen S) where
            pub row_14_found : {r : ℕ} → Lowest monotonic r × (r < ATOMS) → Refused (MonotonicUnseen r) ≡ verdict S
            unfolding verdict
            row_14_found l =
                row_found _ _ e₆ l ∙ row_passed _ _ e₅ z₅ ∙ row_passed _ _ e₄ z₄ ∙ row_passed _ _ e₃ z₃ ∙ row_passed _ _ e₂ z₂ ∙ row_passed _ _ e₁ z₁

            pub rows_passed : monotonic ≡ 0 → Accepted ≡ verdict S
            unfolding verdict
            rows_passed z₆ =
                row_passed _ _ e₆ z₆ ∙ row_passed _ _ e₅ z₅ ∙ row_passed _ _ e₄ z₄ ∙ row_passed _ _ e₃ z₃ ∙ row_passed _ _ e₂ z₂ ∙ row_passed _ _ e₁ z₁
