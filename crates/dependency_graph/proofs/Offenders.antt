-- The word of a row collects the rules or units that break its condition, so the condition holds exactly if the word is empty.
use Rattle.dependency_graph.proofs.Prelude.{◌≡◌, ap, subst, ◌↔◌, ◌⊎◌, inl, inr, ℕ, zero, suc, ◌<◌, arith, ℕ_discrete, dec_lt, Has, ◌∪◌, ◌∖◌, below}
use Rattle.dependency_graph.proofs.Prelude.{Apart, union_in, Collects, decides_and, decides_not, decides_equal, decided_true, decides_has}
use Rattle.dependency_graph.proofs.Prelude.{decides_apart, has_dec, has_left, has_right, union_cases, has_without, without_right, has_none, has_below}
use Rattle.dependency_graph.proofs.Prelude.{ext, some_atom, apart_of_cut, shared_atom, union_has, union_at, collects_none, collects_dec, collects_iff}
use Rattle.dependency_graph.proofs.Prelude.{collects_has, collects_below, collects_word, collects_cut, collects_union, collects_without}
use Rattle.dependency_graph.proofs.Prelude.{collects_union_in, Units, Holds, GivenFree, Share, Nonmonotonic, Monotonic, Sees, ConditionA, ConditionB}
use Rattle.dependency_graph.proofs.Prelude.{Acyclic, ConditionC, ConditionD, reach, GivenInHead, RuleInNoUnit, HeadedRuleInSeveral, Cycle}
use Rattle.dependency_graph.proofs.Prelude.{NonmonotonicUnseen, MonotonicUnseen, union_below, twice_below, seen, unseen_heads, nonmonotonic_unseen_in}
use Rattle.dependency_graph.proofs.Prelude.{monotonic_seen_in, given_in_head, rule_in_no_unit, headed_rule_in_several, cycle, nonmonotonic_unseen}
use Rattle.dependency_graph.proofs.Prelude.{monotonic_unseen}
use Rattle.dependency_graph.proofs.Heads.{path_start, reach_path, path_reach}

-- ---- the words of the numbers below a bound

pub union_below_suc : (n : ℕ) (f : ℕ → ℕ) → union_below (suc n) f ≡ union_below n f ∪ f n
unfolding union_in
union_below_suc n f =
    rw (decided_true (decides_has (below (suc n)) n) (has_below (suc n) n (omega arith)), union_in)
    (ap (λ (w : ℕ). w ∪ f n) (ext (union_in n (below (suc n)) f) (union_below n f) into from))
  where
    into : (a : ℕ) → Has (union_in n (below (suc n)) f) a → Has (union_below n f) a
    into a h = let s = union_at n (below (suc n)) f a h in union_has n (below n) f s.0 a s.1 (has_below n s.0 s.1) s.3

    from : (a : ℕ) → Has (union_below n f) a → Has (union_in n (below (suc n)) f) a
    from a h =
        let s = union_at n (below n) f a h in
        let l : s.0 < suc n = omega (arith, s.1) in
        union_has n (below (suc n)) f s.0 a s.1 (has_below (suc n) s.0 l) s.3

collects_union_below : (n : ℕ) (f : ℕ → ℕ) {K : ℕ → ℕ → Type 0} → ((i : ℕ) → i < n → Collects (K i) (f i))
    → Collects (λ a. (i : ℕ) × (i < n) × K i a) (union_below n f)
collects_union_below n f c =
    collects_iff (λ a k. (k.0, k.1, k.3)) (λ a k. (k.0, k.1, has_below n k.0 k.1, k.2)) (collects_union_in n (below n) f c)

collects_twice_below : (n : ℕ) (f : ℕ → ℕ)
    → Collects (λ a. (i : ℕ) × (j : ℕ) × (i < j) × (j < n) × Has (f i) a × Has (f j) a) (twice_below n f)
unfolding twice_below
collects_twice_below zero f = record { each = λ a h. absurd (has_none h); all = λ a k. absurd (omega (arith, k.3)) }
collects_twice_below (suc n) f =
    collects_iff into from
    (collects_union (collects_twice_below n f) (collects_cut (collects_union_below n f (λ i l. collects_has (f i))) (collects_has (f n))))
  where
    Twice : ℕ → ℕ → Type 0
    Twice m a = (i : ℕ) × (j : ℕ) × (i < j) × (j < m) × Has (f i) a × Has (f j) a

    into : (a : ℕ) → Twice n a ⊎ (((i : ℕ) × (i < n) × Has (f i) a) × Has (f n) a) → Twice (suc n) a
    into a (inl k) = (k.0, k.1, k.2, omega (arith, k.3), k.4, k.5)
    into a (inr k) = (k.0.0, n, k.0.1, omega arith, k.0.2, k.1)

    from : (a : ℕ) → Twice (suc n) a → Twice n a ⊎ (((i : ℕ) × (i < n) × Has (f i) a) × Has (f n) a)
    from a k = go (ℕ_discrete k.1 n)
      where
        go : Dec (k.1 ≡ n) → Twice n a ⊎ (((i : ℕ) × (i < n) × Has (f i) a) × Has (f n) a)
        go (yes e) = inr ((k.0, omega (arith, k.2), k.4), subst (λ (x : ℕ). Has (f x) a) e k.5)
        go (no e) = inl (k.0, k.1, k.2, omega (arith, k.3), k.4, k.5)

-- a word that collects what breaks a condition is empty exactly if the condition holds
empty_iff : {K : ℕ → Type 0} {w : ℕ} {C : Type 0} → Collects K w → (((a : ℕ) → ¬ K a) → C) → (C → (a : ℕ) → ¬ K a)
    → (w ≡ 0) ↔ C
empty_iff c f g = (λ e. f ((collects_none c).0 e), λ x. (collects_none c).1 (g x))

module _ (S : Units) where
  -- ---- what a unit sees

  seen_of_sees : (u s : ℕ) → Sees S u s → Has (seen S u) s
  unfolding seen
  seen_of_sees u s (inl h) = has_left (S.unit u) (union_in S.units (S.predecessors u) S.unit) h.holds
  seen_of_sees u s (inr h) =
      has_right (S.unit u) (union_in S.units (S.predecessors u) S.unit)
      (union_has S.units (S.predecessors u) S.unit h.0 s h.1.is_predecessor h.1.edge h.2.holds)

  sees_of_seen : (u s : ℕ) → u < S.units → s < S.rules → Has (seen S u) s → Sees S u s
  unfolding seen
  sees_of_seen u s l k h = go (union_cases (S.unit u) (union_in S.units (S.predecessors u) S.unit) h)
    where
      go : Has (S.unit u) s ⊎ Has (union_in S.units (S.predecessors u) S.unit) s → Sees S u s
      go (inl p) = inl (record { is_unit = l; is_rule = k; holds = p })
      go (inr p) =
          let t = union_at S.units (S.predecessors u) S.unit s p in
          inr (t.0, record { is_unit = l; is_predecessor = t.1; edge = t.2 }, record { is_unit = t.1; is_rule = k; holds = t.3 })

  sees_dec : (u s : ℕ) → u < S.units → s < S.rules → Dec (Sees S u s)
  sees_dec u s l k = go (has_dec (seen S u) s)
    where
      go : Dec (Has (seen S u) s) → Dec (Sees S u s)
      go (yes p) = yes (sees_of_seen u s l k p)
      go (no p) = no (λ q. p (seen_of_sees u s q))

  unseen_has : (u s a : ℕ) → u < S.units → s < S.rules → ¬ Sees S u s → Has (S.program.head s) a → Has (unseen_heads S u) a
  unfolding unseen_heads
  unseen_has u s a l k n h =
      union_has S.rules (below S.rules ∖ seen S u) S.program.head s a k
      (has_without (below S.rules) (seen S u) (has_below S.rules s k) (λ p. n (sees_of_seen u s l k p))) h

  unseen_at : (u a : ℕ) → Has (unseen_heads S u) a → (s : ℕ) × (s < S.rules) × ¬ Sees S u s × Has (S.program.head s) a
  unfolding unseen_heads
  unseen_at u a h =
      let t = union_at S.rules (below S.rules ∖ seen S u) S.program.head a h in
      (t.0, t.1, λ p. without_right (below S.rules) (seen S u) t.2 (seen_of_sees u t.0 p), t.3)

  -- a unit sees the rules that it holds
  other_rule : (u r s : ℕ) → Holds S u r → ¬ Sees S u s → ¬ (r ≡ s)
  other_rule u r s h n e = n (inl (subst (λ (x : ℕ). Holds S u x) e h))

  -- ---- row 16: given atoms

  pub collects_given_in_head : Collects (GivenInHead S) (given_in_head S)
  unfolding given_in_head
  collects_given_in_head =
      collects_iff into (λ r o. (o.is_rule, λ f. f.none o.shared.atom o.shared.left o.shared.right))
      (collects_word S.rules _ (λ r l. decides_not (decides_apart (S.program.head r) S.given)))
    where
      into : (r : ℕ) → (r < S.rules) × ¬ Apart (S.program.head r) S.given → GivenInHead S r
      into r k =
          let m = shared_atom (S.program.head r) S.given (λ e. k.1 (apart_of_cut (S.program.head r) S.given e)) in
          record { is_rule = k.0; shared = record { atom = m.0; left = m.1; right = m.2 } }

  pub given_iff : (given_in_head S ≡ 0) ↔ GivenFree S
  given_iff =
      empty_iff collects_given_in_head
      (λ n. record { free = λ r a l h g. n r (record { is_rule = l; shared = record { atom = a; left = h; right = g } }) })
      (λ c r o. c.free r o.shared.atom o.is_rule o.shared.left o.shared.right)

  -- ---- row 10: (a)

  collects_placed : Collects (λ r. (u : ℕ) × (u < S.units) × Has (S.unit u) r) (union_below S.units S.unit)
  collects_placed = collects_union_below S.units S.unit (λ u l. collects_has (S.unit u))

  pub collects_rule_in_no_unit : Collects (RuleInNoUnit S) (rule_in_no_unit S)
  unfolding rule_in_no_unit
  collects_rule_in_no_unit =
      collects_iff (λ r k. record { is_rule = k.0; nowhere = λ u h. k.1 (u, h.is_unit, h.holds) })
      (λ r o. (o.is_rule, λ k. o.nowhere k.0 (record { is_unit = k.1; is_rule = o.is_rule; holds = k.2 })))
      (collects_without (collects_below S.rules) collects_placed)

  pub a_iff : (rule_in_no_unit S ≡ 0) ↔ ConditionA S
  a_iff = empty_iff collects_rule_in_no_unit holds (λ c r o. let s = c.placed r o.is_rule in o.nowhere s.0 s.1)
    where
      holds : ((r : ℕ) → ¬ RuleInNoUnit S r) → ConditionA S
      holds n = record { placed = λ r l. go r l (collects_dec collects_placed r) }
        where
          go : (r : ℕ) → r < S.rules → Dec ((u : ℕ) × (u < S.units) × Has (S.unit u) r) → (u : ℕ) × Holds S u r
          go r l (yes k) = (k.0, record { is_unit = k.1; is_rule = l; holds = k.2 })
          go r l (no k) = absurd (n r (record { is_rule = l; nowhere = λ u h. k (u, h.is_unit, h.holds) }))

  -- ---- row 11: (b)

  pub collects_headed_rule_in_several : Collects (HeadedRuleInSeveral S) (headed_rule_in_several S)
  unfolding headed_rule_in_several
  collects_headed_rule_in_several =
      collects_iff into (λ r o. from r o (dec_lt o.first o.second))
      (collects_cut (collects_word S.rules _ (λ r l. decides_not (decides_equal (S.program.head r) 0))) (collects_twice_below S.units S.unit))
    where
      Found : ℕ → Type 0
      Found r =
          ((r < S.rules) × ¬ (S.program.head r ≡ 0))
          × ((u : ℕ) × (v : ℕ) × (u < v) × (v < S.units) × Has (S.unit u) r × Has (S.unit v) r)

      into : (r : ℕ) → Found r → HeadedRuleInSeveral S r
      into r k = let a = some_atom (S.program.head r) k.0.1 in let t = k.1 in record {
        atom = a.0;
        headed = a.1;
        first = t.0;
        second = t.1;
        in_first = record { is_unit = omega (arith, t.2, t.3); is_rule = k.0.0; holds = t.4 };
        in_second = record { is_unit = t.3; is_rule = k.0.0; holds = t.5 };
        two = λ e. absurd (omega (arith, t.2, e));
      }

      headed : (r : ℕ) → HeadedRuleInSeveral S r → (r < S.rules) × ¬ (S.program.head r ≡ 0)
      headed r o = (o.in_first.is_rule, λ e. has_none (subst (λ (w : ℕ). Has w o.atom) e o.headed))

      from : (r : ℕ) (o : HeadedRuleInSeveral S r) → Dec (o.first < o.second) → Found r
      from r o (yes l) = (headed r o, (o.first, o.second, l, o.in_second.is_unit, o.in_first.holds, o.in_second.holds))
      from r o (no l) =
          let n : ¬ (o.first ≡ o.second) = o.two in
          (headed r o, (o.second, o.first, omega arith, o.in_first.is_unit, o.in_second.holds, o.in_first.holds))

  pub b_iff : (headed_rule_in_several S ≡ 0) ↔ ConditionB S
  b_iff =
      empty_iff collects_headed_rule_in_several holds
      (λ c r o. o.two (c.one r o.atom o.first o.second o.headed o.in_first o.in_second))
    where
      holds : ((r : ℕ) → ¬ HeadedRuleInSeveral S r) → ConditionB S
      holds n = record { one = λ r a u v h p q. go r a u v h p q (ℕ_discrete u v) }
        where
          go : (r a u v : ℕ) → Has (S.program.head r) a → Holds S u r → Holds S v r → Dec (u ≡ v) → u ≡ v
          go r a u v h p q (yes k) = k
          go r a u v h p q (no k) =
              absurd (n r (record { atom = a; headed = h; first = u; second = v; in_first = p; in_second = q; two = k }))

  -- ---- row 12: (acyclic)

  pub collects_cycle : Collects (Cycle S) (cycle S)
  unfolding cycle
  collects_cycle =
      collects_iff (λ u k. record { returns = reach_path S u u k.0 k.1 })
      (λ u o. (path_start S o.returns, path_reach S u u o.returns))
      (collects_word S.units _ (λ u l. decides_has (reach S u) u))

  pub acyclic_iff : (cycle S ≡ 0) ↔ Acyclic S
  acyclic_iff =
      empty_iff collects_cycle (λ n. record { no_return = λ u p. n u (record { returns = p }) }) (λ c u o. c.no_return u o.returns)

  -- ---- row 13: (c)

  pub collects_nonmonotonic_unseen : Collects (NonmonotonicUnseen S) (nonmonotonic_unseen S)
  unfolding nonmonotonic_unseen nonmonotonic_unseen_in
  collects_nonmonotonic_unseen =
      collects_iff into from
      (collects_union_below S.units (nonmonotonic_unseen_in S) (λ u l. collects_word S.rules _
      (λ r k. decides_and (decides_has (S.unit u) r) (decides_not (decides_apart (S.looks r) (unseen_heads S u))))))
    where
      Found : ℕ → Type 0
      Found r = (u : ℕ) × (u < S.units) × ((r < S.rules) × (Has (S.unit u) r × ¬ Apart (S.looks r) (unseen_heads S u)))

      into : (r : ℕ) → Found r → NonmonotonicUnseen S r
      into r k =
          let held : Holds S k.0 r = record { is_unit = k.1; is_rule = k.2.0; holds = k.2.1.0 } in
          let m = shared_atom (S.looks r) (unseen_heads S k.0) (λ e. k.2.1.1 (apart_of_cut (S.looks r) (unseen_heads S k.0) e)) in
          let s = unseen_at k.0 m.0 m.2 in
          record {
            unit = k.0;
            other = s.0;
            is_rule = s.1;
            depends = record { other = other_rule k.0 r s.0 held s.2; shared = record { atom = m.0; left = m.1; right = s.3 } };
            held = held;
            unseen = s.2;
          }

      from : (r : ℕ) → NonmonotonicUnseen S r → Found r
      from r o =
          let m = o.depends.shared in
          let lost = unseen_has o.unit o.other m.atom o.held.is_unit o.is_rule o.unseen m.right in
          (o.unit, o.held.is_unit, (o.held.is_rule, (o.held.holds, λ f. f.none m.atom m.left lost)))

  pub c_iff : (nonmonotonic_unseen S ≡ 0) ↔ ConditionC S
  c_iff = empty_iff collects_nonmonotonic_unseen holds (λ c r o. o.unseen (c.seen r o.other o.unit o.is_rule o.depends o.held))
    where
      holds : ((r : ℕ) → ¬ NonmonotonicUnseen S r) → ConditionC S
      holds n = record { seen = λ r s u l d h. go r s u l d h (sees_dec u s h.is_unit l) }
        where
          go : (r s u : ℕ) → s < S.rules → Nonmonotonic S r s → Holds S u r → Dec (Sees S u s) → Sees S u s
          go r s u l d h (yes p) = p
          go r s u l d h (no p) = absurd (n r (record { unit = u; other = s; is_rule = l; depends = d; held = h; unseen = p }))

  -- ---- row 14: (d)

  -- u holds r and sees all rules that r depends on monotonically
  abbrev SeesAll : ℕ → ℕ → Type 0
  SeesAll r u = Holds S u r × ((s : ℕ) → s < S.rules → Monotonic S r s → Sees S u s)

  collects_seen : Collects (λ r. (u : ℕ) × (u < S.units) × SeesAll r u) (union_below S.units (monotonic_seen_in S))
  unfolding monotonic_seen_in
  collects_seen =
      collects_union_below S.units (monotonic_seen_in S)
      (λ u l. collects_iff (into u l) (from u) (collects_word S.rules _
      (λ r k. decides_and (decides_has (S.unit u) r) (decides_apart (S.program.positive r ∪ S.program.head r) (unseen_heads S u)))))
    where
      Found : ℕ → ℕ → Type 0
      Found u r = (r < S.rules) × (Has (S.unit u) r × Apart (S.program.positive r ∪ S.program.head r) (unseen_heads S u))

      into : (u : ℕ) → u < S.units → (r : ℕ) → Found u r → SeesAll r u
      into u l r k = (record { is_unit = l; is_rule = k.0; holds = k.1.0 }, λ s n m. go s n m.shared (sees_dec u s l n))
        where
          go : (s : ℕ) → s < S.rules
              → Share (S.program.positive r) (S.program.head s) ⊎ Share (S.program.head r) (S.program.head s)
              → Dec (Sees S u s) → Sees S u s
          go s n m (yes p) = p
          go s n (inl m) (no p) =
              absurd (k.1.1.none m.atom (has_left (S.program.positive r) (S.program.head r) m.left) (unseen_has u s m.atom l n p m.right))
          go s n (inr m) (no p) =
              absurd (k.1.1.none m.atom (has_right (S.program.positive r) (S.program.head r) m.left) (unseen_has u s m.atom l n p m.right))

      from : (u r : ℕ) → SeesAll r u → Found u r
      from u r k =
          (k.0.is_rule, (k.0.holds, record { none = λ a p q. none a (union_cases (S.program.positive r) (S.program.head r) p) (unseen_at u a q) }))
        where
          none : (a : ℕ) → Has (S.program.positive r) a ⊎ Has (S.program.head r) a
              → (s : ℕ) × (s < S.rules) × ¬ Sees S u s × Has (S.program.head s) a → ⊥
          none a (inl p) t =
              t.2 (k.1 t.0 t.1 (record { other = other_rule u r t.0 k.0 t.2; shared = inl (record { atom = a; left = p; right = t.3 }) }))
          none a (inr p) t =
              t.2 (k.1 t.0 t.1 (record { other = other_rule u r t.0 k.0 t.2; shared = inr (record { atom = a; left = p; right = t.3 }) }))

  pub collects_monotonic_unseen : Collects (MonotonicUnseen S) (monotonic_unseen S)
  unfolding monotonic_unseen
  collects_monotonic_unseen =
      collects_iff (λ r k. record { is_rule = k.0; nowhere = λ u h f. k.1 (u, h.is_unit, (h, f)) })
      (λ r o. (o.is_rule, λ k. o.nowhere k.0 k.2.0 k.2.1))
      (collects_without (collects_below S.rules) collects_seen)

  pub d_iff : (monotonic_unseen S ≡ 0) ↔ ConditionD S
  d_iff = empty_iff collects_monotonic_unseen holds (λ c r o. let t = c.covered r o.is_rule in o.nowhere t.0 t.1 t.2)
    where
      holds : ((r : ℕ) → ¬ MonotonicUnseen S r) → ConditionD S
      holds n = record { covered = λ r l. go r l (collects_dec collects_seen r) }
        where
          go : (r : ℕ) → r < S.rules → Dec ((u : ℕ) × (u < S.units) × SeesAll r u)
              → (u : ℕ) × Holds S u r × ((s : ℕ) → s < S.rules → Monotonic S r s → Sees S u s)
          go r l (yes k) = (k.0, k.2.0, k.2.1)
          go r l (no k) = absurd (n r (record { is_rule = l; nowhere = λ u h f. k (u, h.is_unit, (h, f)) }))
