-- Programs with some of a plan's constraints: which rules they have, and that the bounded test finds an answer set of theirs if there is one.
use Rattle.blaming.proofs.Prelude.{◌≡◌, sym, ap₂, ◌∙◌, subst, true, false, ◌⊎◌, inl, inr, ℕ, suc, ◌^◌, ◌<◌, arith, eqb, ATOMS, Has, ◌⊆◌, ◌∪◌, ◌∖◌}
use Rattle.blaming.proofs.Prelude.{below, Decides, union_in, Collects, ext, has_left, has_right, union_cases, has_without, without_left, without_right}
use Rattle.blaming.proofs.Prelude.{has_dec, has_below, below_lt, subset_le, lt_of_has, collects_word, collects_iff, not_both, decided_true}
use Rattle.blaming.proofs.Prelude.{decides_equal, Fitting, Plan, AnswerSet, lent, Lent, answer_set, Supported, supported, Constraints, NoneSettled}
use Rattle.blaming.proofs.Prelude.{OneSettled, may_be_up, Constraint, Among, headed_rule, constraint, Empties, LeavesOne, Positionless, constraints_in}
use Rattle.blaming.proofs.Prelude.{rules_with, leaves}
use Rattle.atoms.proofs.Bounded.{some_at, some_intro, some_none, union_has}
use Rattle.plan.specs.Limits.{MAX_RULES}
use Rattle.answer_sets.proofs.JudgedSets.{decides_answer_set}

-- ---- the constraints

pub constraints_are : (p : Plan) → Collects (Constraint p) (constraints_in p)
constraints_are p =
    collects_iff (λ r h. record { rule = h.0; headless = h.1 }) (λ r h. (h.rule, h.headless))
    (collects_word p.rule_count (λ r. eqb ((lent p.rules).head r) 0) (λ r l. decides_equal ((lent p.rules).head r) 0))

-- the word that the code collects
pub constraints_same : (p : Plan) {all w : ℕ} → all ≡ below p.rule_count → Collects (λ r. Has all r × ((lent p.rules).head r ≡ 0)) w
    → w ≡ constraints_in p
constraints_same p {all} {w} e c = ext w (constraints_in p) into from
  where
    into : (r : ℕ) → Has w r → Has (constraints_in p) r
    into r h =
        let k = c.each r h in
        (constraints_are p).all r (record { rule = below_lt p.rule_count (rw e at k.0); headless = k.1 })

    from : (r : ℕ) → Has (constraints_in p) r → Has w r
    from r h =
        let k = (constraints_are p).each r h in
        c.all r (rw e (has_below p.rule_count r k.rule), k.headless)

-- ---- the rules of a program with the constraints of w

module _ (p : Plan) where
  number_lt : (w : ℕ) → w ⊆ constraints_in p → (r : ℕ) → Has (rules_with p w) r → r < p.rule_count
  number_lt w f r h = go (union_cases (below p.rule_count ∖ constraints_in p) w h)
    where
      go : Has (below p.rule_count ∖ constraints_in p) r ⊎ Has w r → r < p.rule_count
      go (inl k) = below_lt p.rule_count (without_left (below p.rule_count) (constraints_in p) k)
      go (inr k) = ((constraints_are p).each r (f.each r k)).rule

  pub among_rules : (w : ℕ) → w ⊆ constraints_in p → Collects (Among p w) (rules_with p w)
  among_rules w f = record { each = each; all = all }
    where
      each : (r : ℕ) → Has (rules_with p w) r → Among p w r
      each r h = go (union_cases (below p.rule_count ∖ constraints_in p) w h)
        where
          go : Has (below p.rule_count ∖ constraints_in p) r ⊎ Has w r → Among p w r
          go (inl k) =
              let l = number_lt w f r h in
              headed_rule l (λ e.
              without_right (below p.rule_count) (constraints_in p) k ((constraints_are p).all r (record { rule = l; headless = e })))
          go (inr k) = constraint ((constraints_are p).each r (f.each r k)) k

      all : (r : ℕ) → Among p w r → Has (rules_with p w) r
      all r (headed_rule l n) =
          has_left (below p.rule_count ∖ constraints_in p) w
          (has_without (below p.rule_count) (constraints_in p) (has_below p.rule_count r l) (λ h. n ((constraints_are p).each r h).headless))
      all r (constraint c h) = has_right (below p.rule_count ∖ constraints_in p) w h

  -- with all constraints they are the whole program
  pub whole_rules : rules_with p (constraints_in p) ≡ below p.rule_count
  whole_rules =
      ext (rules_with p (constraints_in p)) (below p.rule_count)
      (λ r h. has_below p.rule_count r (number_lt (constraints_in p) (record { each = λ i k. k }) r h))
      (λ r h. go r h (has_dec (constraints_in p) r))
    where
      go : (r : ℕ) → Has (below p.rule_count) r → Dec (Has (constraints_in p) r) → Has (rules_with p (constraints_in p)) r
      go r h (yes k) = has_right (below p.rule_count ∖ constraints_in p) (constraints_in p) k
      go r h (no k) =
          has_left (below p.rule_count ∖ constraints_in p) (constraints_in p) (has_without (below p.rule_count) (constraints_in p) h k)

  -- an answer set of theirs has only atoms that are given or in heads
  answer_within : (w M : ℕ) → w ⊆ constraints_in p → AnswerSet (lent p.rules) (rules_with p w) p.once.given.word M → M ⊆ may_be_up p
  answer_within w M f a = record { each = λ i h. go i (supported (lent p.rules) (rules_with p w) p.once.given.word M i a h) }
    where
      heads : ℕ → ℕ
      heads r = (lent p.rules).head r

      go : (i : ℕ) → Supported (lent p.rules) (rules_with p w) p.once.given.word i → Has (may_be_up p) i
      go i (inl h) = has_left p.once.given.word (union_in p.rule_count (below p.rule_count) heads) h
      go i (inr t) =
          let l = number_lt w f t.0 t.1 in
          has_right p.once.given.word (union_in p.rule_count (below p.rule_count) heads)
          (union_has p.rule_count (below p.rule_count) heads t.0 i l (has_below p.rule_count t.0 l) t.2)

-- ---- the test

module _ (p : Plan) (fits : Fitting p) where
  number_fits : (w : ℕ) → w ⊆ constraints_in p → rules_with p w < 2 ^ ATOMS
  number_fits w f = lt_of_has (rules_with p w) MAX_RULES (λ r h. omega (arith, number_lt p w f r h, fits.rules_fit))

  decides_answers : (w M : ℕ) → w ⊆ constraints_in p
      → Decides (AnswerSet (lent p.rules) (rules_with p w) p.once.given.word M) (answer_set (lent p.rules) (rules_with p w) p.once.given.word M)
  decides_answers w M f = decides_answer_set (lent p.rules) (rules_with p w) p.once.given.word M (number_fits w f)

  pub leaves_yes : (w : ℕ) → w ⊆ constraints_in p → leaves p w ≡ true → LeavesOne p w
  unfolding leaves
  leaves_yes w f e =
      let t = some_at (suc (may_be_up p)) (λ M. answer_set (lent p.rules) (rules_with p w) p.once.given.word M) e in
      record { which = rules_with p w; rules_are = among_rules p w f; position = t.0; answers = (decides_answers w t.0 f).yes t.2 }

  answer_leaves : (w M : ℕ) → w ⊆ constraints_in p → AnswerSet (lent p.rules) (rules_with p w) p.once.given.word M → leaves p w ≡ true
  unfolding leaves
  answer_leaves w M f a =
      some_intro (suc (may_be_up p)) (λ N. answer_set (lent p.rules) (rules_with p w) p.once.given.word N) M
      (omega (arith, subset_le (answer_within p w M f a)))
      (decided_true (decides_answers w M f) a)

  pub leaves_no : (w : ℕ) → w ⊆ constraints_in p → leaves p w ≡ false → Empties p w
  leaves_no w f e =
      record { which = rules_with p w; rules_are = among_rules p w f; none = λ M a. not_both (answer_leaves w M f a) e }

  -- ---- what few_constraints finds

  pub one_leaves : (w : ℕ) → w ⊆ constraints_in p → OneSettled p.rules (rules_with p w) p.once.given.word → leaves p w ≡ true
  one_leaves w f o = answer_leaves w o.member f o.answers

  pub none_leaves : (w : ℕ) → w ⊆ constraints_in p → NoneSettled p.rules (rules_with p w) p.once.given.word → leaves p w ≡ false
  unfolding leaves
  none_leaves w f n =
      some_none (suc (may_be_up p)) (λ M. answer_set (lent p.rules) (rules_with p w) p.once.given.word M)
      (λ M l e. n.nobody M ((decides_answers w M f).yes e))

-- ---- what few_constraints is asked, by the words of the code

module _ (p : Plan) {all cons top : ℕ} (all_is : all ≡ below p.rule_count) (cons-are : Collects (λ r. Has all r × ((lent p.rules).head r ≡ 0)) cons)
    (top-is : top ≡ all ∖ cons) where
  pub top_same : top ≡ below p.rule_count ∖ constraints_in p
  top_same = rw (top-is, constraints_same p all_is cons-are, all_is)

  all_same : top ∪ cons ≡ below p.rule_count
  all_same = ap₂ (λ (x y : ℕ). x ∪ y) top_same (constraints_same p all_is cons-are) ∙ whole_rules p

  pub few_asked : Lent p.rules all → Positionless p
      → Lent p.rules (top ∪ cons) × Constraints p.rules cons × NoneSettled p.rules (top ∪ cons) p.once.given.word
  few_asked l n = (
    subst (Lent p.rules) (all_is ∙ sym all_same) l,
    record { headless = λ r h. (cons-are.each r h).1 },
    record { nobody = λ M a. n.none M (subst (λ (x : ℕ). AnswerSet (lent p.rules) x p.once.given.word M) all_same a) },
  )
