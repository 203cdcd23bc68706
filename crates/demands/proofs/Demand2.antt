-- Demand 2 on graphs, from the answer that the function hands back: its outcome tells the verdict, and only one verdict is right.
use Rattle.std.specs.Prelude.{Ok, Err}
use Rattle.demands.proofs.Prelude.{◌≡◌, refl, sym, ap, ◌∙◌, subst, ◌↔◌, inl, inr, List, [], ◌∷◌, ℕ, ◌≤◌, ◌<◌, arith, dec_lt, length, MAX_RULES}
use Rattle.demands.proofs.Prelude.{LIST_WORDS, number, spot, RefusedBy, Fault, LongList, Outcome, Accepted, Refused, refused_by, reading, record_fits}
use Rattle.demands.proofs.Prelude.{Units, GivenFree, ConditionA, ConditionB, Acyclic, ConditionC, Passes, working_order, units_of, verdict, VerdictRight}
use Rattle.demands.proofs.Prelude.{passes, row_16, row_10, row_11, row_12, row_13, row_14, verdict_of_passes, verdict_right, verdict_only, unit_list_of}
use Rattle.demands.proofs.Prelude.{last_list_of, Answer, unless_refused, work_from, unit_work, after_graph, answer, Handed, GraphNumber, GraphJudged, Demand2}
use Rattle.demands.proofs.Prelude.{Listing}
use Rattle.atoms.specs.Collected.{Least}
use Rattle.dependency_graph.specs.Offenders.{GivenInHead, RuleInNoUnit, HeadedRuleInSeveral, Cycle, NonmonotonicUnseen, MonotonicUnseen}
use Rattle.demands.proofs.Answers.{not_accepted, read_answer, work_fits, work_long, last_fits, last_long}

-- ---- unit work refuses by 15 alone

data Worked : Outcome → Type 0 where
  listed : Worked Accepted
  too_long : (u : ℕ) → Worked (Refused (LongList u))

work_outcome : (S : Units) (table us : List ℕ) → Worked (work_from S table us).outcome
work_outcome S table [] = go (dec_lt LIST_WORDS (length (last_list_of S)))
  where
    go : Dec (LIST_WORDS < length (last_list_of S)) → Worked (work_from S table []).outcome
    go (yes l) = rw (last_long S table l) (too_long S.units)
    go (no n) = rw (last_fits S table (omega arith)) listed
work_outcome S table (u ∷ us) = go (dec_lt LIST_WORDS (length (unit_list_of S u))) (work_outcome S table us)
  where
    go : Dec (LIST_WORDS < length (unit_list_of S u)) → Worked (work_from S table us).outcome → Worked (work_from S table (u ∷ us)).outcome
    go (yes l) w = rw (work_long S table u us l) (too_long u)
    go (no n) w = rw (work_fits S table u us (omega arith)) w

same_fault : (f g : Fault) → Refused f ≡ Refused g → f ≡ g
same_fault f g e = cc

-- and so by no fault of the graph
worked_fault : (o : Outcome) (f : Fault) → Worked o → ¬ (number f ≡ 15) → o ≡ Refused f → ⊥
worked_fault o f listed n e = not_accepted f e
worked_fault o f (too_long u) n e = n (sym (ap number (same_fault (LongList u) f e)))

-- ---- the outcome tells the verdict

unless_fault : (v : Outcome) (table : List ℕ) (next : Answer) (f : Fault) → Worked next.outcome → ¬ (number f ≡ 15)
    → ((unless_refused v table next).outcome ≡ Refused f) ↔ (v ≡ Refused f)
unfolding unless_refused
unless_fault (Err g) table next f w l = (λ e. e, λ e. e)
unless_fault (Ok u) table next f w l = (λ e. absurd (worked_fault next.outcome f w l e), λ e. absurd (not_accepted f e))

-- ---- what a right verdict says

said_16 : {S : Units} {r : ℕ} → VerdictRight S (Refused (Fault.GivenInHead r)) → Least (GivenInHead S) r
said_16 (row_16 l) = l

said_10 : {S : Units} {r : ℕ} → VerdictRight S (Refused (Fault.RuleInNoUnit r)) → GivenFree S × Least (RuleInNoUnit S) r
said_10 (row_10 g l) = (g, l)

said_11 : {S : Units} {r : ℕ} → VerdictRight S (Refused (Fault.HeadedRuleInSeveral r)) → GivenFree S × ConditionA S × Least (HeadedRuleInSeveral S) r
said_11 (row_11 g a l) = (g, a, l)

said_12 : {S : Units} {u : ℕ} → VerdictRight S (Refused (Fault.Cycle u)) → GivenFree S × ConditionA S × ConditionB S × Least (Cycle S) u
said_12 (row_12 g a b l) = (g, a, b, l)

said_13 : {S : Units} {r : ℕ} → VerdictRight S (Refused (Fault.NonmonotonicUnseen r))
    → GivenFree S × ConditionA S × ConditionB S × Acyclic S × Least (NonmonotonicUnseen S) r
said_13 (row_13 g a b y l) = (g, a, b, y, l)

said_14 : {S : Units} {r : ℕ} → VerdictRight S (Refused (Fault.MonotonicUnseen r))
    → GivenFree S × ConditionA S × ConditionB S × Acyclic S × ConditionC S × Least (MonotonicUnseen S) r
said_14 (row_14 g a b y c l) = (g, a, b, y, c, l)

-- a right verdict that refuses nothing is a pass
right_refused : {S : Units} {v : Outcome} (table : List ℕ) (next : Answer) → VerdictRight S v
    → ((n s : ℕ) → GraphNumber n → ¬ RefusedBy (unless_refused v table next).outcome n s) → Passes S
unfolding unless_refused
right_refused table next (passes p) n = p
right_refused table next (row_16 l) n = absurd (n _ _ (inl refl) ((refused_by _).1 refl))
right_refused table next (row_10 g l) n = absurd (n _ _ (inr (omega arith, omega arith)) ((refused_by _).1 refl))
right_refused table next (row_11 g a l) n = absurd (n _ _ (inr (omega arith, omega arith)) ((refused_by _).1 refl))
right_refused table next (row_12 g a b l) n = absurd (n _ _ (inr (omega arith, omega arith)) ((refused_by _).1 refl))
right_refused table next (row_13 g a b y l) n = absurd (n _ _ (inr (omega arith, omega arith)) ((refused_by _).1 refl))
right_refused table next (row_14 g a b y c l) n = absurd (n _ _ (inr (omega arith, omega arith)) ((refused_by _).1 refl))

not_15 : {n : ℕ} → GraphNumber n → ¬ (n ≡ 15)
not_15 (inl e) q = omega arith
not_15 (inr l) q = omega (arith, l.1)

-- ---- the demand

module _ (S : Units) (few_rules : S.rules ≤ MAX_RULES) (few_units : S.units ≤ MAX_RULES) (table : List ℕ) where
  tells : (f : Fault) → ¬ (number f ≡ 15) → ((after_graph S table).outcome ≡ Refused f) ↔ (verdict S ≡ Refused f)
  tells f = unless_fault (verdict S) table (unit_work S table) f (work_outcome S table (working_order S))

  passed : Passes S → (n s : ℕ) → GraphNumber n → ¬ RefusedBy (after_graph S table).outcome n s
  passed p n s g e =
      not_accepted e.fault (sym (verdict_of_passes S p) ∙ (tells e.fault (λ q. not_15 g (sym e.number_is ∙ q))).0 e.is)

  -- a refusal by a fault of the graph place says what its row says
  says : (f : Fault) {Said : Type 0} → ¬ (number f ≡ 15) → (VerdictRight S (Refused f) → Said) → (Said → VerdictRight S (Refused f))
      → RefusedBy (after_graph S table).outcome (number f) (spot f) ↔ Said
  says f n there back = (
    λ e. there (subst (VerdictRight S) ((tells f n).0 ((refused_by f).0 e)) (verdict_right S few_rules few_units)),
    λ h. (refused_by f).1 ((tells f n).1 (verdict_only S few_rules few_units (Refused f) (back h))),
  )

  graph_judged : GraphJudged S (after_graph S table).outcome
  graph_judged = record {
    passes = (right_refused table (unit_work S table) (verdict_right S few_rules few_units), passed);
    sixteen = λ r. says (Fault.GivenInHead r) (λ q. omega arith) said_16 row_16;
    ten = λ r. says (Fault.RuleInNoUnit r) (λ q. omega arith) said_10 (λ (g, l). row_10 g l);
    eleven = λ r. says (Fault.HeadedRuleInSeveral r) (λ q. omega arith) said_11 (λ (g, a, l). row_11 g a l);
    twelve = λ u. says (Fault.Cycle u) (λ q. omega arith) said_12 (λ (g, a, b, l). row_12 g a b l);
    thirteen = λ r. says (Fault.NonmonotonicUnseen r) (λ q. omega arith) said_13 (λ (g, a, b, y, l). row_13 g a b y l);
    fourteen = λ r. says (Fault.MonotonicUnseen r) (λ q. omega arith) said_14 (λ (g, a, b, y, c, l). row_14 g a b y c l);
  }

pub demand_2 : (bytes table : List ℕ) (r : Listing) (table' : List ℕ) → Handed (answer bytes table) r table' → Demand2 bytes table r
unfolding units_of
demand_2 bytes table r table' h = record {
  judged = λ read long.
      let few = (record_fits bytes).units_fit in
      rw (h.outcome_is ∙ ap (λ (a : Answer). a.outcome) (read_answer bytes table long read))
      (graph_judged (units_of (reading bytes).plan) (record_fits bytes).rules_fit (omega arith) table);
}
