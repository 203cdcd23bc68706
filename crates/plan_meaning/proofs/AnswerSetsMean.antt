-- The answer sets of a record that means what the lists say are those of the lists.
use Rattle.plan_meaning.proofs.Prelude.{sym, subst, ◌↔◌, List, ℕ, ◌<◌, arith, length, Has, ◌⊆◌, below, has_below, below_lt, Plan}
use Rattle.plan_meaning.proofs.Prelude.{RuleWords, Contents, lent, RuleMeans, Means}
use Rattle.answer_sets.specs.Program.{Program, Body, Satisfies}
use Rattle.answer_sets.specs.AnswerSet.{ReductModel, AnswerSet}
use Rattle.plan_meaning.specs.AnswerSets.{BodyHolds, RuleSatisfied, KeptModel, AnswerSetOf, PlanAnswerSet}
use Rattle.plan_meaning.specs.Settled.{Settles}
use Rattle.plan_meaning.specs.Read.{ReadMeans}
use Rattle.plan_meaning.proofs.RecordMeans.{number_lt, number_there, record_means, read_record}

-- ---- one rule

module _ {c : Contents} {P : Program} {r : ℕ} {w : RuleWords} (m : RuleMeans c P r w) {M : ℕ} where
  body_told : Body P r M → BodyHolds c r w M
  body_told b = record { positive = subst (λ (v : ℕ). v ⊆ M) m.positive b.positive_up; rest = (m.rest M).0 b.rest_holds }

  body_back : BodyHolds c r w M → Body P r M
  body_back b = record { positive_up = subst (λ (v : ℕ). v ⊆ M) (sym m.positive) b.positive; rest_holds = (m.rest M).1 b.rest }

  satisfied_told : Satisfies P r M → RuleSatisfied c r w M
  satisfied_told s = record {
    head_up = λ b. let h = s.head_up (body_back b) in (h.0, subst (λ (v : ℕ). Has v h.0) m.head h.1, h.2);
  }

  satisfied_back : RuleSatisfied c r w M → Satisfies P r M
  satisfied_back s = record {
    head_up = λ b. let h = s.head_up (body_told b) in (h.0, subst (λ (v : ℕ). Has v h.0) (sym m.head) h.1, h.2);
  }

-- ---- the rules that a word numbers

module _ {c : Contents} {p : Plan} (m : Means c p) (which : ℕ) (These : ℕ → Type 0) (there : (r : ℕ) → Has which r → r < length c.rules)
    (told : (r : ℕ) → Has which r → These r) (back : (r : ℕ) → r < length c.rules → These r → Has which r) where
  model_told : {M N : ℕ} → ReductModel (lent p.rules) which p.once.given.word M N → KeptModel c These M N
  model_told x = record {
    given_up = λ word l. record { each = λ a h. x.facts_up.each a ((m.given a).1 (word, l, h)) };
    each = λ r w n t b. satisfied_told (m.rule r w n) (x.each r (record { numbered = back r (number_lt n) t; holds = body_back (m.rule r w n) b }));
  }

  model_back : {M N : ℕ} → KeptModel c These M N → ReductModel (lent p.rules) which p.once.given.word M N
  model_back x = record {
    facts_up = record { each = λ a h. let g = (m.given a).0 h in (x.given_up g.0 g.1).each a g.2 };
    each = λ r k.
        let n = number_there c.rules r (there r k.numbered) in
        let w = m.rule r n.0 n.1 in
        satisfied_back w (x.each r n.0 n.1 (told r k.numbered) (body_told w k.holds));
  }

  pub sets_same : (M : ℕ) → AnswerSet (lent p.rules) which p.once.given.word M ↔ AnswerSetOf c These M
  sets_same M = (
    λ s. record { model = model_told s.model; minimal = λ N l x. s.minimal N l (model_back x) },
    λ s. record { model = model_back s.model; minimal = λ N l x. s.minimal N l (model_told x) },
  )

-- ---- all rules

pub whole_same : {c : Contents} {p : Plan} → Means c p → (M : ℕ) → Settles p M ↔ PlanAnswerSet c M
whole_same {c} {p} m =
    sets_same m (below p.rule_count) (λ r. Unit {0}) (λ r h. omega (arith, below_lt p.rule_count h, m.rule_count_is)) (λ r h. tt)
    (λ r l t. has_below p.rule_count r (omega (arith, m.rule_count_is)))

pub read_means : (bytes : List ℕ) → ReadMeans bytes
read_means bytes = record {
  means = λ c l. read_record bytes l;
  of_lists = λ c l. whole_same (record_means c l.within);
  of_read = λ c l. whole_same (read_record bytes l);
}
