-- What is blamed, of the plan's lists.
use Rattle.blaming.proofs.Prelude.{◌≡◌, sym, ◌∙◌, subst, ◌↔◌, List, ℕ, ◌<◌, arith, length, Has, Collects, some_atom, has_none, Plan, AnswerSet, lent}
use Rattle.blaming.proofs.Prelude.{Constraint, Among, headed_rule, constraint, AmongRules, headed, held, ConstraintsMean}
use Rattle.blaming.proofs.Prelude.{BlameMeans}
use Rattle.reading.specs.Layout.{RuleWords, Contents}
use Rattle.plan_meaning.specs.Meaning.{Number, Means}
use Rattle.plan_meaning.specs.AnswerSets.{AnswerSetOf}
use Rattle.plan_meaning.proofs.RecordMeans.{number_lt, number_there, record_means, read_record}
use Rattle.plan_meaning.proofs.AnswerSetsMean.{sets_same, read_means}

module _ {c : Contents} {p : Plan} (m : Means c p) where
  constraint_told : (r : ℕ) → Constraint p r → (x : RuleWords) × Number c.rules r x × (x.head ≡ 0)
  constraint_told r k =
      let n = number_there c.rules r (omega (arith, k.rule, m.rule_count_is)) in
      (n.0, n.1, sym (m.rule r n.0 n.1).head ∙ k.headless)

  constraint_back : (r : ℕ) → (x : RuleWords) × Number c.rules r x × (x.head ≡ 0) → Constraint p r
  constraint_back r k = record { rule = omega (arith, number_lt k.1, m.rule_count_is); headless = (m.rule r k.0 k.1).head ∙ k.2 }

  there : (w r : ℕ) → Among p w r → r < length c.rules
  there w r (headed_rule l h) = omega (arith, m.rule_count_is)
  there w r (constraint k h) = omega (arith, k.rule, m.rule_count_is)

  told : (w r : ℕ) → Among p w r → AmongRules c w r
  told w r (headed_rule l h) =
      let n = number_there c.rules r (omega (arith, m.rule_count_is)) in
      let a = some_atom ((lent p.rules).head r) h in
      headed n.1 (subst (λ (v : ℕ). Has v a.0) (m.rule r n.0 n.1).head a.1)
  told w r (constraint k h) = let x = constraint_told r k in held x.1 x.2 h

  back : (w r : ℕ) → AmongRules c w r → Among p w r
  back w r (headed {x} {a} n h) =
      headed_rule (omega (arith, number_lt n, m.rule_count_is))
      (λ e. has_none (subst (λ (v : ℕ). Has v a) (sym (m.rule r x n).head ∙ e) h))
  back w r (held {x} n e h) = constraint (constraint_back r (x, n, e)) h

  same : (w : ℕ) {which : ℕ} → Collects (Among p w) which → (M : ℕ)
      → AnswerSet (lent p.rules) which p.once.given.word M ↔ AnswerSetOf c (AmongRules c w) M
  same w {which} k = sets_same m which (AmongRules c w) (λ r h. there w r (k.each r h)) (λ r h. told w r (k.each r h)) (λ r l t. k.all r (back w r t))

  constraints_mean : ConstraintsMean c p
  constraints_mean = record {
    constraint = λ r. (constraint_told r, constraint_back r);
    empties = λ w e M s. e.none M ((same w e.rules_are M).1 s);
    leaves = λ w l. (l.position, (same w l.rules_are l.position).0 l.answers);
  }

pub blame_means : (bytes : List ℕ) → BlameMeans bytes
blame_means bytes = record {
  positions = read_means bytes;
  of_lists = λ c l. constraints_mean (record_means c l.within);
  of_read = λ c l. constraints_mean (read_record bytes l);
}
