-- The verdict passes exactly the graphs that pass, and a refusal names the first row that fits and its lowest rule or unit.
use Rattle.dependency_graph.proofs.Prelude.{◌≡◌, sym, ap, ◌∙◌, ◌↔◌, ℕ, ◌≤◌, ◌<◌, arith, ℕ_discrete, ATOMS, Collects, lowest_of, Least, collects_none}
use Rattle.dependency_graph.proofs.Prelude.{least_same, collects_lowest_of, Fault, Outcome, Accepted, Refused, Units, Passes, GivenInHead}
use Rattle.dependency_graph.proofs.Prelude.{RuleInNoUnit, HeadedRuleInSeveral, Cycle, NonmonotonicUnseen, MonotonicUnseen, fault_or, verdict}
use Rattle.dependency_graph.proofs.Prelude.{VerdictRight, passes, row_16, row_10, row_11, row_12, row_13, row_14}
use Rattle.dependency_graph.proofs.Heads.{path_start}
use Rattle.dependency_graph.proofs.ConditionRows.{row_misses, row_fits}
use Rattle.dependency_graph.proofs.Offenders.{collects_given_in_head, collects_rule_in_no_unit, collects_headed_rule_in_several, collects_cycle}
use Rattle.dependency_graph.proofs.Offenders.{collects_nonmonotonic_unseen, collects_monotonic_unseen, given_iff, a_iff, b_iff, acyclic_iff, c_iff}
use Rattle.dependency_graph.proofs.Offenders.{d_iff}

-- ---- one row

never : (f : Fault) → Refused f ≡ Accepted → ⊥
never f e = let z : ◌≡◌ {A = ℕ} 0 1 = cc in omega arith

-- a row passes only where it misses
row_passes : (w : ℕ) (f : ℕ → Fault) (v : Outcome) → fault_or w f v ≡ Accepted → (w ≡ 0) × (v ≡ Accepted)
row_passes w f v e = go (ℕ_discrete w 0)
  where
    go : Dec (w ≡ 0) → (w ≡ 0) × (v ≡ Accepted)
    go (yes k) = (k, sym (row_misses w f v k) ∙ e)
    go (no k) = absurd (never (f (lowest_of w)) (sym (row_fits w f v k) ∙ e))

-- a row is right where its fault is, and where it misses the rows below are
row_right : (S : Units) {K : ℕ → Type 0} {w : ℕ} {C : Type 0} (f : ℕ → Fault) (v : Outcome) → Collects K w → ((r : ℕ) → K r → r < ATOMS)
    → (w ≡ 0) ↔ C → (Least K (lowest_of w) → VerdictRight S (Refused (f (lowest_of w)))) → (C → VerdictRight S v) → VerdictRight S (fault_or w f v)
row_right S {w = w} f v c small iff hit miss = go (ℕ_discrete w 0)
  where
    go : Dec (w ≡ 0) → VerdictRight S (fault_or w f v)
    go (yes e) = rw (row_misses w f v e) (miss (iff.0 e))
    go (no n) = rw (row_fits w f v n) (hit (collects_lowest_of c small n))

-- a row fits where there is an offender, and names the least
row_names : {K : ℕ → Type 0} {w r : ℕ} (f : ℕ → Fault) (v : Outcome) → Collects K w → ((q : ℕ) → K q → q < ATOMS) → Least K r
    → fault_or w f v ≡ Refused (f r)
row_names {w = w} {r = r} f v c small l =
    let some : ¬ (w ≡ 0) = λ e. (collects_none c).0 e r l.here in
    row_fits w f v some ∙ ap (λ (q : ℕ). Refused (f q)) (least_same (collects_lowest_of c small some) l)

-- ---- the rows in turn

module _ (S : Units) where
  pub verdict_of_passes : Passes S → verdict S ≡ Accepted
  unfolding verdict
  verdict_of_passes p =
      row_misses _ _ _ ((given_iff S).1 p.given_free)
      ∙ row_misses _ _ _ ((a_iff S).1 p.a)
      ∙ row_misses _ _ _ ((b_iff S).1 p.b)
      ∙ row_misses _ _ _ ((acyclic_iff S).1 p.acyclic)
      ∙ row_misses _ _ _ ((c_iff S).1 p.c)
      ∙ row_misses _ _ _ ((d_iff S).1 p.d)

  pub passes_of_verdict : verdict S ≡ Accepted → Passes S
  unfolding verdict
  passes_of_verdict e =
      let g = row_passes _ _ _ e in
      let a = row_passes _ _ _ g.1 in
      let b = row_passes _ _ _ a.1 in
      let y = row_passes _ _ _ b.1 in
      let c = row_passes _ _ _ y.1 in
      let d = row_passes _ _ _ c.1 in
      record {
        given_free = (given_iff S).0 g.0;
        a = (a_iff S).0 a.0;
        b = (b_iff S).0 b.0;
        acyclic = (acyclic_iff S).0 y.0;
        c = (c_iff S).0 c.0;
        d = (d_iff S).0 d.0;
      }

  -- the verdict is a pass exactly if all conditions hold
  pub passes_iff : (verdict S ≡ Accepted) ↔ Passes S
  passes_iff = (passes_of_verdict, verdict_of_passes)

module _ (S : Units) (rules_fit : S.rules ≤ ATOMS) (units_fit : S.units ≤ ATOMS) where
  small_given_in_head : (r : ℕ) → GivenInHead S r → r < ATOMS
  small_given_in_head r o = omega (arith, o.is_rule)

  small_rule_in_no_unit : (r : ℕ) → RuleInNoUnit S r → r < ATOMS
  small_rule_in_no_unit r o = omega (arith, o.is_rule)

  small_headed_rule_in_several : (r : ℕ) → HeadedRuleInSeveral S r → r < ATOMS
  small_headed_rule_in_several r o = omega (arith, o.in_first.is_rule)

  small_cycle : (u : ℕ) → Cycle S u → u < ATOMS
  small_cycle u o = omega (arith, path_start S o.returns)

  small_nonmonotonic_unseen : (r : ℕ) → NonmonotonicUnseen S r → r < ATOMS
  small_nonmonotonic_unseen r o = omega (arith, o.held.is_rule)

  small_monotonic_unseen : (r : ℕ) → MonotonicUnseen S r → r < ATOMS
  small_monotonic_unseen r o = omega (arith, o.is_rule)

  -- a verdict names the first row that fits and its lowest offender
  pub verdict_right : VerdictRight S (verdict S)
  unfolding verdict
  verdict_right =
      row_right S _ _ (collects_given_in_head S) small_given_in_head (given_iff S) row_16
      (λ g. row_right S _ _ (collects_rule_in_no_unit S) small_rule_in_no_unit (a_iff S) (row_10 g)
      (λ a. row_right S _ _ (collects_headed_rule_in_several S) small_headed_rule_in_several (b_iff S) (row_11 g a)
      (λ b. row_right S _ _ (collects_cycle S) small_cycle (acyclic_iff S) (row_12 g a b)
      (λ y. row_right S _ _ (collects_nonmonotonic_unseen S) small_nonmonotonic_unseen (c_iff S) (row_13 g a b y)
      (λ c. row_right S _ _ (collects_monotonic_unseen S) small_monotonic_unseen (d_iff S) (row_14 g a b y c)
      (λ d. passes (record { given_free = g; a = a; b = b; acyclic = y; c = c; d = d })))))))

  -- and only one verdict does
  pub verdict_only : (v : Outcome) → VerdictRight S v → verdict S ≡ v
  unfolding verdict
  verdict_only v (passes p) = verdict_of_passes S p
  verdict_only v (row_16 least) = row_names Fault.GivenInHead _ (collects_given_in_head S) small_given_in_head least
  verdict_only v (row_10 g least) =
      row_misses _ _ _ ((given_iff S).1 g) ∙ row_names Fault.RuleInNoUnit _ (collects_rule_in_no_unit S) small_rule_in_no_unit least
  verdict_only v (row_11 g a least) =
      row_misses _ _ _ ((given_iff S).1 g)
      ∙ row_misses _ _ _ ((a_iff S).1 a)
      ∙ row_names Fault.HeadedRuleInSeveral _ (collects_headed_rule_in_several S) small_headed_rule_in_several least
  verdict_only v (row_12 g a b least) =
      row_misses _ _ _ ((given_iff S).1 g)
      ∙ row_misses _ _ _ ((a_iff S).1 a)
      ∙ row_misses _ _ _ ((b_iff S).1 b)
      ∙ row_names Fault.Cycle _ (collects_cycle S) small_cycle least
  verdict_only v (row_13 g a b y least) =
      row_misses _ _ _ ((given_iff S).1 g)
      ∙ row_misses _ _ _ ((a_iff S).1 a)
      ∙ row_misses _ _ _ ((b_iff S).1 b)
      ∙ row_misses _ _ _ ((acyclic_iff S).1 y)
      ∙ row_names Fault.NonmonotonicUnseen _ (collects_nonmonotonic_unseen S) small_nonmonotonic_unseen least
  verdict_only v (row_14 g a b y c least) =
      row_misses _ _ _ ((given_iff S).1 g)
      ∙ row_misses _ _ _ ((a_iff S).1 a)
      ∙ row_misses _ _ _ ((b_iff S).1 b)
      ∙ row_misses _ _ _ ((acyclic_iff S).1 y)
      ∙ row_misses _ _ _ ((c_iff S).1 c)
      ∙ row_names Fault.MonotonicUnseen _ (collects_monotonic_unseen S) small_monotonic_unseen least
