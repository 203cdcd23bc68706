-- Unfounded atoms: by what a rule can do without them, and that an answer set has none.
use Rattle.narrowing.proofs.Prelude.{◌≡◌, sym, ap, subst, ◌∙◌, Bool, true, false, not, ◌↔◌, ◌⊎◌, inl, inr, List, ℕ, not-true, not-false, Has, ◌∩◌, ◌∪◌}
use Rattle.narrowing.proofs.Prelude.{◌∖◌, apart, cut_left, cut_right, has_left, union_cases, has_without, without_left, without_right, shared_atom}
use Rattle.narrowing.proofs.Prelude.{apart_of_cut, decides_apart, ReductModel, lent, negative, Completes, Narrows, BodySays, State, Truth, Fails}
use Rattle.narrowing.proofs.Prelude.{least, down_narrows, known_fails, completes_known, negative_down, AnswersInputs, Spares, Unfounded}

-- ---- one rule

module _ (rules : List ℕ) (r x : ℕ) (s : State) where
  -- without them a completion has none of them and no dropped atom
  lacks : (M : ℕ) → Completes s M → (i : ℕ) → Has (M ∖ x) i → Has s.dropped i ⊎ Has x i → ⊥
  lacks M c i m (inl d) = c.no_dropped.none i d (without_left M x m)
  lacks M c i m (inr h) = without_right M x m h

  -- it has none of them in its head, but for those it wants dropped
  pub spares_head : {head barred own : ℕ} {b : Bool} → head ≡ (lent rules).head r → barred ≡ negative rules r → own ≡ head ∖ barred → b ≡ apart own x → b ≡ true
      → Spares rules r x s
  spares_head {own = own} p q d t f = record {
    other = λ M c b n a h m. (
      a,
      h,
      has_without M x m
          (λ i. ((decides_apart own x).yes (sym t ∙ f)).none a
          (subst (λ (w : ℕ). Has w a) (sym e) (has_without ((lent rules).head r) (negative rules r) h (λ q. negative_down rules r M b a q m))) i),
    );
  }
    where
      e : own ≡ (lent rules).head r ∖ negative rules r
      e = rw (d, p, q)

  -- its body wants one of them up, or a dropped atom
  pub spares_positive : {positive barred : ℕ} {b : Bool} → positive ≡ (lent rules).positive r → barred ≡ s.dropped ∪ x → b ≡ apart positive barred
      → not b ≡ true → Spares rules r x s
  spares_positive {positive} {barred} {b} e g t f =
      let k = shared_atom positive barred (λ q. (decides_apart positive barred).no (sym t ∙ not-true b f) (apart_of_cut positive barred q)) in
      let h = subst (λ (w : ℕ). Has w k.0) e k.1 in
      record {
        other = λ M c b n a _ m.
            absurd
            (lacks M c k.0 (n.positive_up.each k.0 h) (union_cases s.dropped x (subst (λ (w : ℕ). Has w k.0) g k.2)));
      }

  -- another head atom is up
  pub spares_up : {head others : ℕ} {b : Bool} → head ≡ (lent rules).head r → others ≡ head ∖ x → b ≡ apart others s.up → not b ≡ true → Spares rules r x s
  spares_up {others = others} {b} p e t f =
      let k = shared_atom others s.up (λ q. (decides_apart others s.up).no (sym t ∙ not-true b f) (apart_of_cut others s.up q)) in
      let h = subst (λ (w : ℕ). Has w k.0) (e ∙ ap (λ (w : ℕ). w ∖ x) p) k.1 in
      record {
        other = λ M c b n a _ m. (
          k.0,
          without_left ((lent rules).head r) x h,
          has_without M x (c.has_up.each k.0 k.2) (without_right ((lent rules).head r) x h),
        );
      }

  -- its body fails
  pub spares_failed : {t : Truth} {b : Bool} → BodySays rules r s.up s.dropped t → (b ≡ true) ↔ (t ≡ Fails) → b ≡ true → Spares rules r x s
  spares_failed k e f = record { other = λ M c b n a h m. absurd (known_fails rules r s.up s.dropped k M (completes_known c) (e.0 f) b) }

  -- its body fails without them
  pub spares_without : {up dropped : ℕ} {t : Truth} {b : Bool} → up ≡ s.up ∖ x → dropped ≡ s.dropped ∪ x → BodySays rules r up dropped t
      → (b ≡ true) ↔ (t ≡ Fails) → b ≡ true → Spares rules r x s
  spares_without {up} {dropped} f g k e y = record {
    other = λ M c b n a h m. absurd (known_fails rules r up dropped k (M ∖ x) (completes_known (fewer M c)) (e.0 y) n);
  }
    where
      fewer : (M : ℕ) → Completes s M → Completes (record { up = up; dropped = dropped }) (M ∖ x)
      fewer M c = record {
        has_up = record {
          each = λ i h.
              let u = subst (λ (w : ℕ). Has w i) f h in
              has_without M x (c.has_up.each i (without_left s.up x u)) (without_right s.up x u);
        };
        no_dropped = record { none = λ i h m. lacks M c i m (union_cases s.dropped x (subst (λ (w : ℕ). Has w i) g h)) };
      }

-- a test said so
pub spared : {rules : List ℕ} {r x : ℕ} {s : State} {b : Bool} → (b ≡ true → Spares rules r x s) → not b ≡ false → Spares rules r x s
spared {b = b} f n = f (not-false b n)

-- ---- the step

-- an answer set without them has its inputs and satisfies its kept rules, so that it is the answer set
pub unfounded_narrows : (rules : List ℕ) (which inputs all : ℕ) (s : State) {barred x dropped : ℕ} {t : Bool} → barred ≡ inputs ∪ s.dropped
    → x ≡ all ∖ barred → (t ≡ true → Unfounded rules which x s) → not t ≡ false → dropped ≡ s.dropped ∪ x
    → Narrows (AnswersInputs rules which inputs) s (record { up = s.up; dropped = dropped })
unfounded_narrows rules which inputs all s {barred} {x} {dropped} {t} b e says left d =
    rw d
    (down_narrows s x
    (λ M a c. record {
      none = λ i h m.
          without_right M x ((least (lent rules) which (M ∩ inputs) M a.answer (M ∖ x) (record { each = λ j k. without_left M x k }) (model M a c)).each i m)
          h;
    }))
  where
    u : Unfounded rules which x s
    u = says (not-false t left)

    no_input : (i : ℕ) → Has inputs i → ¬ Has x i
    no_input i h k =
        without_right all barred (subst (λ (w : ℕ). Has w i) e k) (subst (λ (w : ℕ). Has w i) (sym b) (has_left inputs s.dropped h))

    model : (M : ℕ) → AnswersInputs rules which inputs M → Completes s M → ReductModel (lent rules) which (M ∩ inputs) M (M ∖ x)
    model M a c = record {
      facts_up = record { each = λ i h. has_without M x (cut_left M inputs h) (no_input i (cut_right M inputs h)) };
      each = λ r k. record {
        head_up = λ n.
            let t = (a.answer.model.each r k).head_up k.holds in
            (u.each r k.numbered).other M c k.holds n t.0 t.1 t.2;
      };
    }
