-- The support step: which rules may support an atom, and what follows where none or one is left.
use Rattle.narrowing.proofs.Prelude.{◌≡◌, sym, subst, ◌∙◌, Bool, true, false, not, true≢false, ◌⊎◌, inl, inr, List, ℕ, ◌^◌, ◌<◌, get_or, not-true, ATOMS}
use Rattle.narrowing.proofs.Prelude.{Has, ◌∩◌, ◌∪◌, ◌∖◌, apart, atom, below, below_lt, has_without, Lowest, numbered_by, decides_apart}
use Rattle.narrowing.proofs.Prelude.{subset_refl, cut_right, has_none, has_atom}
use Rattle.narrowing.proofs.Prelude.{atom_only, without_left, without_right, union_cases, taken_cases, taken_within, lent, IsLent, Lent, negative}
use Rattle.narrowing.proofs.Prelude.{Completes, Narrows, BodySays, State, Truth, Fails, known_fails, completes_known, negative_down, narrows_trans}
use Rattle.narrowing.proofs.Prelude.{narrows_when, up_narrows, down_narrows, AnswersInputs, Backs, Backers, Supports, Excluded, Supporters}
use Rattle.narrowing.proofs.Prelude.{SupportedIfUp}
use Rattle.narrowing.proofs.Supports.{supporter}

-- ---- one rule

module _ (rules : List ℕ) (r a : ℕ) (s : State) where
  pub may : (b : Bool) → b ≡ true → Excluded rules r a s b
  may b e = record { never = λ f. absurd (true≢false (sym e ∙ f)) }

  -- another head atom is up
  pub not_alone : (b : Bool) {head others : ℕ} {t : Bool} → head ≡ (lent rules).head r → others ≡ head ∖ atom a → t ≡ apart others s.up → not t ≡ true
      → Excluded rules r a s b
  not_alone b {others = others} {t} q e d f = record {
    never = λ _ M c p.
        (decides_apart others s.up).no (sym d ∙ not-true t f)
        (record {
          none = λ i h u.
              let k = rw (e, q) at h in
              without_right ((lent rules).head r) (atom a) k
              (subst (λ (x : ℕ). Has (atom a) x) (sym (p.only i (without_left ((lent rules).head r) (atom a) k) (c.has_up.each i u))) (has_atom a));
        });
  }

  -- the answer is whether its body does not fail
  pub body_asked : (b : Bool) {t : Truth} → BodySays rules r s.up s.dropped t → (b ≡ false → t ≡ Fails) → Excluded rules r a s b
  body_asked b k f = record { never = λ e M c p. known_fails rules r s.up s.dropped k M (completes_known c) (f e) p.holds }

-- ---- the rules that are left

module _ {rules : List ℕ} {backing a : ℕ} {s : State} where
  pub supporters_all : Supporters rules backing a s backing
  supporters_all = record { within = subset_refl; every = λ r M h c p. h }

  pub supporters_next : {rest rest' r : ℕ} {b : Bool} → Supporters rules backing a s rest → Lowest rest r → rest' ≡ rest ∖ atom r
      → Excluded rules r a s b → b ≡ false → Supporters rules backing a s rest'
  supporters_next {rest} {rest'} {r} w low e x f = record {
    within = taken_within w.within low e;
    every = λ q M h c p. go q M c p (taken_cases e (w.every q M h c p));
  }
    where
      go : (q M : ℕ) → Completes s M → Supports (lent rules) q M a → Has rest' q ⊎ (r ≡ q) → Has rest' q
      go q M c p (inl h) = h
      go q M c p (inr k) = absurd (x.never f M c (subst (λ (i : ℕ). Supports (lent rules) i M a) (sym k) p))

  -- from the lowest of the rules left on
  pub supporters_from : {rest r first w : ℕ} → Supporters rules backing a s rest → Lowest rest r → first ≡ below r → w ≡ backing ∖ first
      → Supporters rules backing a s w
  supporters_from {r = r} k low e f = rw (f, e) (record {
    within = record { each = λ q h. without_left backing (below r) h };
    every = λ q M h c p. has_without backing (below r) h (λ b. low.least q (below_lt r b) (k.every q M h c p));
  })

  -- the lowest of the rules left is lent
  pub supporter_lent : {w r : ℕ} → Lent rules backing → Supporters rules backing a s w → Lowest w r → IsLent rules r
  supporter_lent {r = r} l w low = l.each r (w.within.each r low.here)

  -- without one of them the rules left are lent
  pub others_lent : (r : ℕ) {w v : ℕ} → Lent rules backing → Supporters rules backing a s w → v ≡ w ∖ atom r → Lent rules v
  others_lent r {w} l k e = record { each = λ q h. l.each q (k.within.each q (without_left w (atom r) (rw e at h))) }

  -- none is left
  pub supporters_end : {rest : ℕ} → Supporters rules backing a s rest → rest ≡ 0 → Supporters rules backing a s 0
  supporters_end w e = subst (Supporters rules backing a s) e w

-- ---- the step

module _ (rules : List ℕ) (backing a : ℕ) (s : State) {left : ℕ} (w : Supporters rules backing a s left) where
  -- none is left
  pub none_left : (x d : ℕ) → left ≡ 0 → x ≡ atom a → d ≡ s.dropped ∪ x
      → Narrows (SupportedIfUp rules backing a) s (record { up = s.up; dropped = d })
  none_left x d z e f =
      rw (f, e)
      (down_narrows s (atom a)
      (λ M k c. record {
        none = λ i h m.
            let p = k.held (subst (λ (j : ℕ). Has M j) (sym (atom_only a h)) m) in
            has_none (subst (λ (v : ℕ). Has v p.0) z (w.every p.0 M p.1 c p.2));
      }))

  -- one is left of an atom that is up
  pub one_left : {r rest others x : ℕ} {b : Bool} {t : State} → x ≡ atom a → b ≡ apart s.up x → b ≡ false → rest ≡ left ∖ atom r
      → Supporters rules rest a s others → others ≡ 0 → Narrows (λ M. Supports (lent rules) r M a) s t → Narrows (SupportedIfUp rules backing a) s t
  one_left {r} {rest} {others} ex eb apart-not e v z n = narrows_when by_r n
    where
      u : Has s.up a
      u = numbered_by s.up a ex eb apart-not

      same : (q M : ℕ) → Has left q → Completes s M → Supports (lent rules) q M a → Has rest q ⊎ (r ≡ q) → Supports (lent rules) r M a
      same q M h c p (inl k) = absurd (has_none (subst (λ (x : ℕ). Has x q) z (v.every q M k c p)))
      same q M h c p (inr k) = subst (λ (i : ℕ). Supports (lent rules) i M a) (sym k) p

      by_r : (M : ℕ) → SupportedIfUp rules backing a M → Completes s M → Supports (lent rules) r M a
      by_r M k c =
          let p = k.held (c.has_up.each a u) in
          let h = w.every p.0 M p.1 c p.2 in
          same p.0 M h c p.2 (taken_cases e h)

-- what follows of a rule that supports an atom
supports_narrows : (rules : List ℕ) (r a : ℕ) (s : State)
    → Narrows (λ M. Supports (lent rules) r M a) s
    (record { up = s.up ∪ (lent rules).positive r; dropped = s.dropped ∪ (negative rules r ∪ ((lent rules).head r ∖ atom a)) })
supports_narrows rules r a s =
    narrows_trans
    (up_narrows s ((lent rules).positive r) (λ N p c. p.holds.positive_up))
    (down_narrows (record { up = s.up ∪ (lent rules).positive r; dropped = s.dropped }) (negative rules r ∪ ((lent rules).head r ∖ atom a))
    (λ N p c. record { none = λ i q m. down N p i m (union_cases (negative rules r) ((lent rules).head r ∖ atom a) q) }))
  where
    down : (N : ℕ) → Supports (lent rules) r N a → (i : ℕ) → Has N i → Has (negative rules r) i ⊎ Has ((lent rules).head r ∖ atom a) i → ⊥
    down N p i m (inl q) = negative_down rules r N p.holds i q m
    down N p i m (inr q) =
        without_right ((lent rules).head r) (atom a) q
        (subst (λ (x : ℕ). Has (atom a) x) (sym (p.only i (without_left ((lent rules).head r) (atom a) q) m)) (has_atom a))

pub held_narrows : (rules : List ℕ) (r a : ℕ) (s : State) {head others negatives positives down up dropped : ℕ} → head ≡ (lent rules).head r
    → others ≡ head ∖ atom a → negatives ≡ negative rules r → down ≡ negatives ∪ others → positives ≡ (lent rules).positive r → up ≡ s.up ∪ positives
    → dropped ≡ s.dropped ∪ down → Narrows (λ M. Supports (lent rules) r M a) s (record { up = up; dropped = dropped })
held_narrows rules r a s h o n d p u e = rw (e, d, n, o, h, u, p) (supports_narrows rules r a s)

-- ---- an answer set's atom that is no input is held by its backers

pub answers_held : (rules : List ℕ) (which inputs : ℕ) (backers : List ℕ) → which < 2 ^ ATOMS → Backers rules which backers → (a : ℕ)
    → ¬ Has inputs a → (M : ℕ) → AnswersInputs rules which inputs M → SupportedIfUp rules (get_or backers a 0) a M
answers_held rules which inputs backers fits b a own M p = record { held = λ m. go m (by m) }
  where
    by : Has M a → (r : ℕ) × Has which r × Supports (lent rules) r M a
    by m = supporter (lent rules) which (M ∩ inputs) M a fits p.answer m (λ q. own (cut_right M inputs q))

    go : Has M a → (r : ℕ) × Has which r × Supports (lent rules) r M a → (r : ℕ) × Has (get_or backers a 0) r × Supports (lent rules) r M a
    go m f = (f.0, b.every f.0 a f.1 backs, f.2)
      where
        backs : Backs rules f.0 a
        backs = record {
          in_head = f.2.in_head;
          not_positive = f.2.not_positive;
          not_negative = λ n. negative_down rules f.0 M f.2.holds a n m;
        }
