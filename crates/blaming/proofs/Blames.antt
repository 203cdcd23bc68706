-- What few_constraints promises is the word of the pass, and it is blamed in document 02's words; there is just one such word, and it is 0 where the
-- headed rules and given facts alone have no answer set.
use Rattle.blaming.proofs.Prelude.{Ok, Result}
use Rattle.blaming.proofs.Prelude.{◌≡◌, sym, ap, subst, true, false, ◌⊎◌, inl, inr, ℕ, zero, suc, ◌≤◌, ◌<◌, arith, ℕ_discrete, dec_lt, Has, ◌⊆◌, ◌∖◌}
use Rattle.blaming.proofs.Prelude.{atom, below, Collects, ext, empty, has_none, has_dec, has_without, without_left, without_right, has_atom, atom_only}
use Rattle.blaming.proofs.Prelude.{subset_refl, test_cases, collects_same, Fitting, Plan, AnswerSet, lent, fewer_constraints, FewBlamed, Constraint}
use Rattle.blaming.proofs.Prelude.{Among, headed_rule, constraint, Empties, LeavesOne, StillHeld, stays, untried, TriedConstraint, Blames}
use Rattle.blaming.proofs.Prelude.{LeastOrBlamed, with_position, without, constraints_in, leaves, passed, held_in, Position, Held}
use Rattle.plan.specs.declared.fault.Fault.{Fault}
use Rattle.blaming.specs.declared.Blame.{Blame}
use Rattle.blaming.proofs.Passes.{pass_kept, pass_dropped, pass_within, pass_untried, pass_stays, pass_stayed, going_is}
use Rattle.blaming.proofs.Programs.{constraints_are, constraints_same, top_same, among_rules, whole_rules, leaves_yes, leaves_no, one_leaves}
use Rattle.blaming.proofs.Programs.{none_leaves}

-- ---- where a constraint is tried

module _ (p : Plan) (fits : Fitting p) where
  abbrev up_to : ℕ → ℕ
  up_to n = passed (leaves p) (constraints_in p) n

  others_within : (c : ℕ) → up_to c ∖ atom c ⊆ constraints_in p
  others_within c = record { each = λ i h. (pass_within (leaves p) (constraints_in p) c).each i (without_left (up_to c) (atom c) h) }

  others_are : (c : ℕ) → c < p.rule_count → Collects (StillHeld p (up_to p.rule_count) c) (up_to c ∖ atom c)
  others_are c l = record { each = each; all = all }
    where
      each : (d : ℕ) → Has (up_to c ∖ atom c) d → StillHeld p (up_to p.rule_count) c d
      each d h = go (dec_lt d c) (without_left (up_to c) (atom c) h)
        where
          other : ¬ (c ≡ d)
          other e = without_right (up_to c) (atom c) h (subst (Has (atom c)) e (has_atom c))

          go : Dec (d < c) → Has (up_to c) d → StillHeld p (up_to p.rule_count) c d
          go (yes m) k = stays m (pass_stays (leaves p) (constraints_in p) c p.rule_count d (omega arith) m k)
          go (no m) k =
              untried (omega (arith, other)) ((constraints_are p).each d ((pass_within (leaves p) (constraints_in p) c).each d k))

      all : (d : ℕ) → StillHeld p (up_to p.rule_count) c d → Has (up_to c ∖ atom c) d
      all d (stays m h) =
          has_without (up_to c) (atom c) (pass_stayed (leaves p) (constraints_in p) c p.rule_count d (omega arith) h)
          (λ q. absurd (omega (arith, atom_only c q)))
      all d (untried m h) =
          has_without (up_to c) (atom c) (pass_untried (leaves p) (constraints_in p) c d (omega arith) ((constraints_are p).all d h))
          (λ q. absurd (omega (arith, atom_only c q)))

  tried_there : (c : ℕ) → Constraint p c → TriedConstraint p (up_to p.rule_count) c
  tried_there c k = record {
    others = up_to c ∖ atom c;
    others_are = others_are c k.rule;
    dropped = λ n. leaves_no p fits (up_to c ∖ atom c) (others_within c) (no_answer n (test_cases (leaves p (up_to c ∖ atom c))));
    kept = λ h. leaves_yes p fits (up_to c ∖ atom c) (others_within c) (an_answer h (test_cases (leaves p (up_to c ∖ atom c))));
  }
    where
      is : Has (constraints_in p) c
      is = (constraints_are p).all c k

      no_answer : ¬ Has (up_to p.rule_count) c → (leaves p (up_to c ∖ atom c) ≡ true) ⊎ (leaves p (up_to c ∖ atom c) ≡ false)
          → leaves p (up_to c ∖ atom c) ≡ false
      no_answer n (inr e) = e
      no_answer n (inl e) =
          let here : Has (up_to (suc c)) c =
          rw (pass_kept (leaves p) (constraints_in p) c is e) (pass_untried (leaves p) (constraints_in p) c c (omega arith) is) in
          absurd (n (pass_stays (leaves p) (constraints_in p) (suc c) p.rule_count c k.rule (omega arith) here))

      an_answer : Has (up_to p.rule_count) c → (leaves p (up_to c ∖ atom c) ≡ true) ⊎ (leaves p (up_to c ∖ atom c) ≡ false)
          → leaves p (up_to c ∖ atom c) ≡ true
      an_answer h (inl e) = e
      an_answer h (inr e) =
          let here : Has (up_to c ∖ atom c) c =
          rw (pass_dropped (leaves p) (constraints_in p) c is e) at
          (pass_stayed (leaves p) (constraints_in p) (suc c) p.rule_count c k.rule h) in
          absurd (without_right (up_to c) (atom c) here (has_atom c))

  -- ---- what few_constraints found

  module _ {w : ℕ} (f : FewBlamed p.rules (below p.rule_count ∖ constraints_in p) (constraints_in p) p.once.given.word w) where
    found_held : w ≡ held_in p
    unfolding held_in
    found_held =
        going_is (leaves p) (constraints_in p) p.rule_count (λ d h. ((constraints_are p).each d h).rule) (none_leaves p fits) (one_leaves p fits) f.greedy

    found_blames : Blames p w
    unfolding held_in
    found_blames = record {
      constraints = λ c h. (constraints_are p).each c (f.within.each c h);
      pass = λ c k. rw found_held (tried_there c k);
      empties = leaves_no p fits w f.within (none_leaves p fits w f.within f.none);
      each = λ c h.
          let part : w ∖ atom c ⊆ constraints_in p = record { each = λ i k. f.within.each i (without_left w (atom c) k) } in
          leaves_yes p fits (w ∖ atom c) part (one_leaves p fits (w ∖ atom c) part (f.each c h));
    }

  -- by the words of the code
  pub few_found : {all cons top w : ℕ} → all ≡ below p.rule_count → Collects (λ r. Has all r × ((lent p.rules).head r ≡ 0)) cons → top ≡ all ∖ cons
      → FewBlamed p.rules top cons p.once.given.word w → (w ≡ held_in p) × Blames p w
  few_found {all} {cons} {top} {w} a c t f = (found_held here, found_blames here)
    where
      here : FewBlamed p.rules (below p.rule_count ∖ constraints_in p) (constraints_in p) p.once.given.word w
      here = rw (top_same p a c t, constraints_same p a c) at f

-- ---- the meaning fixes the word

module _ {p : Plan} where
  -- no answer set and one: not both
  not_both_left : {v w : ℕ} → v ≡ w → Empties p v → LeavesOne p w → ⊥
  not_both_left {v} {w} e x y =
      let same : y.which ≡ x.which = collects_same y.rules_are (rw e at x.rules_are) in
      x.none y.position (subst (λ (z : ℕ). AnswerSet (lent p.rules) z p.once.given.word y.position) same y.answers)

  still_same : {v w c d : ℕ} → ((i : ℕ) → i < c → Has v i → Has w i) → StillHeld p v c d → StillHeld p w c d
  still_same {d = d} f (stays l h) = stays l (f d l h)
  still_same f (untried l k) = untried l k

  module _ {v w : ℕ} (a : Blames p v) (b : Blames p w) where
    -- those below n are the same
    record Same (n : ℕ) : Type 0 where
      into : (i : ℕ) → i < n → Has v i → Has w i
      from : (i : ℕ) → i < n → Has w i → Has v i

    others_same : {c : ℕ} → Same c → (s : TriedConstraint p v c) → (t : TriedConstraint p w c) → s.others ≡ t.others
    others_same e s t =
        ext s.others t.others (λ d h. t.others_are.all d (still_same e.into (s.others_are.each d h)))
        (λ d h. s.others_are.all d (still_same e.from (t.others_are.each d h)))

    same_into : {c : ℕ} → Same c → Has v c → Dec (Has w c) → Has w c
    same_into e h (yes k) = k
    same_into {c} e h (no k) =
        let s = a.pass c (a.constraints c h) in
        let t = b.pass c (a.constraints c h) in
        absurd (not_both_left (sym (others_same e s t)) (t.dropped k) (s.kept h))

    same_from : {c : ℕ} → Same c → Has w c → Dec (Has v c) → Has v c
    same_from e h (yes k) = k
    same_from {c} e h (no k) =
        let s = a.pass c (b.constraints c h) in
        let t = b.pass c (b.constraints c h) in
        absurd (not_both_left (others_same e s t) (s.dropped k) (t.kept h))

    same_more : (n : ℕ) → Same n → Same (suc n)
    same_more n before = record {
      into = λ i l h. into i l h (ℕ_discrete n i);
      from = λ i l h. from i l h (ℕ_discrete n i);
    }
      where
        into : (i : ℕ) → i < suc n → Has v i → Dec (n ≡ i) → Has w i
        into i l h (yes e) = subst (Has w) e (same_into before (subst (Has v) (sym e) h) (has_dec w n))
        into i l h (no e) = before.into i (omega (arith, e)) h

        from : (i : ℕ) → i < suc n → Has w i → Dec (n ≡ i) → Has v i
        from i l h (yes e) = subst (Has v) e (same_from before (subst (Has w) (sym e) h) (has_dec v n))
        from i l h (no e) = before.from i (omega (arith, e)) h

    all_same : (n : ℕ) → Same n
    all_same zero = record { into = λ i l h. absurd (omega arith); from = λ i l h. absurd (omega arith) }
    all_same (suc n) = same_more n (all_same n)

    pub blames_only : v ≡ w
    blames_only =
        ext v w (λ i h. (all_same (suc i)).into i (omega arith) h) (λ i h. (all_same (suc i)).from i (omega arith) h)

-- so does what is said of a plan
pub says_only : {p : Plan} {a b : Result Blame Fault} → LeastOrBlamed p a → LeastOrBlamed p b → a ≡ b
says_only (with_position {M = M} s l) (with_position {M = N} t k) = ap (λ (M : ℕ). Ok (Position M)) (same (l N t) (k M s))
  where
    same : {x y : ℕ} → x ≤ y → y ≤ x → x ≡ y
    same h g = omega arith
says_only (with_position {M = M} s l) (without n b) = absurd (n.none M s)
says_only (without n b) (with_position {M = M} s l) = absurd (n.none M s)
says_only (without n a) (without m b) = ap (λ (w : ℕ). Ok (Held w)) (blames_only a b)

-- ---- the headed rules and given facts alone

-- an answer set with some constraints is one of the headed rules alone
alone : {p : Plan} {w which bare M : ℕ} → Collects (Among p w) which → Collects (Among p 0) bare → AnswerSet (lent p.rules) which p.once.given.word M
    → AnswerSet (lent p.rules) bare p.once.given.word M
alone {p} {w} {which} {bare} c b a =
    fewer_constraints (record { each = λ r h. c.all r (wider (b.each r h)) }) (λ r h. split (c.each r h)) a
  where
    wider : {r : ℕ} → Among p 0 r → Among p w r
    wider (headed_rule l n) = headed_rule l n
    wider (constraint k h) = absurd (has_none h)

    split : {r : ℕ} → Among p w r → Has bare r ⊎ ((lent p.rules).head r ≡ 0)
    split {r} (headed_rule l n) = inl (b.all r (headed_rule l n))
    split (constraint k h) = inr k.headless

-- a position of the plan is an answer set with all constraints
settles_among : (p : Plan) → Collects (Among p (constraints_in p)) (below p.rule_count)
settles_among p = rw (← whole_rules p) (among_rules p (constraints_in p) subset_refl)

-- S-13: where they have no answer set, the word is 0
pub headed_alone : {p : Plan} {r : Result Blame Fault} → Empties p 0 → LeastOrBlamed p r → r ≡ Ok (Held 0)
headed_alone {p} e (with_position {M = M} s l) = absurd (e.none M (alone (settles_among p) e.rules_are s))
headed_alone {p} e (without {w = w} n b) = ap (λ (w : ℕ). Ok (Held w)) (empty w (λ c h.
    let x = b.each c h in
    absurd (e.none x.position (alone x.rules_are e.rules_are x.answers))))
