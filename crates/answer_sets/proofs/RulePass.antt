-- The rule pass: what each of its steps does to a state keeps every position that satisfies the rule.
use Rattle.answer_sets.proofs.Prelude.{Decides, ◌≡◌, refl, sym, ◌∙◌, subst, Bool, true, false, not, ◌↔◌, List, ℕ, not-true, not-false, Has, ◌⊆◌}
use Rattle.answer_sets.proofs.Prelude.{subset, Apart, apart, ◌∪◌, ◌∖◌, atom, AtMostOne, has_without, without_left, has_dec, decides_subset}
use Rattle.answer_sets.proofs.Prelude.{decides_apart, shared_atom, apart_of_cut, subset_refl, subset_trans, has_atom, atom_only, Program, Body}
use Rattle.answer_sets.proofs.Prelude.{Satisfies, SatisfiesAll, lent, Completes, half_decided, Narrows, OneGoes, SomeUp, BodySays, HeldInAll}
use Rattle.answer_sets.proofs.Prelude.{RuleStepped, AlwaysSatisfied, Sifted, State, Passed, Truth, Holds, Fails, narrows_refl, up_narrows}
use Rattle.answer_sets.proofs.Prelude.{down_narrows, with_all_up, with_all_dropped, narrows_trans, narrows_for, completes_back}
use Rattle.answer_sets.proofs.Parts.{known_holds, known_fails, completes_known}
use Rattle.answer_sets.proofs.Bodies.{parts_body}
use Rattle.states.proofs.OneAtom.{left_goes, none_left}

-- ---- one rule

-- what a subset test says of a word that was read
pub subset_read : {read word whole : ℕ} {r : Bool} → read ≡ word → r ≡ subset read whole → r ≡ true → word ⊆ whole
subset_read {read} {word} {whole} e f t = rw e at ((decides_subset read whole).yes (sym f ∙ t))

pub subset_left : {read word whole : ℕ} {r : Bool} → read ≡ word → r ≡ subset read whole → not r ≡ false → word ⊆ whole
subset_left {r = r} e f t = subset_read e f (not-false r t)

pub at_most_said : {w : ℕ} {b : Bool} → Decides (AtMostOne w) b → b ≡ true → AtMostOne w
at_most_said d t = d.yes t

pub held_known : {rules : List ℕ} {r up dropped : ℕ} {t : Truth} {answer : Bool} → BodySays rules r up dropped t
    → (answer ≡ true) ↔ (t ≡ Holds) → HeldInAll rules r up dropped answer
held_known k e = record { exactly = (λ f. k.holds.0 (e.0 f), λ f. e.1 (k.holds.1 f)) }

module _ (rules : List ℕ) (r : ℕ) {s : State} where
  -- a body that is known to hold is told so
  held_told : {t : Truth} → BodySays rules r s.up s.dropped t → HeldInAll rules r s.up s.dropped true → t ≡ Holds
  held_told k h = k.holds.1 (h.exactly.0 refl)

  -- a head atom is up already
  pub head_met : {h : ℕ} {a : Bool} → h ≡ (lent rules).head r → a ≡ apart h s.up → not a ≡ true → RuleStepped rules r s s
  head_met {h} {a} reads e f = record {
    narrows = narrows_refl;
    stops = λ k d. record {
      overlap = λ n. (decides_apart h s.up).no (sym e ∙ not-true a f) (record { none = λ i p u. n.none i u (d.each i (rw reads at p)) });
    };
  }

  -- where the body is known to hold, a position that satisfies the rule has a head atom
  pub holds_head : {h left : ℕ} {t : State} {k : Truth} → h ≡ (lent rules).head r → BodySays rules r s.up s.dropped k → k ≡ Holds
      → left ≡ h ∖ s.dropped → OneGoes (SomeUp left) left s t → RuleStepped rules r s t
  holds_head {h} {t = t} reads e f l n = record {
    narrows = left_goes l up n;
    stops = λ k d. n.stops (none_left h s.dropped l (rw reads d));
  }
    where
      up : (N : ℕ) → Satisfies (lent rules) r N → Completes s N → SomeUp h N
      up N k p =
          let a = k.head_up (known_holds rules r s.up s.dropped e N (completes_known p) f) in
          record { atom = a.0; in_word = rw reads a.1; is_up = a.2 }

  -- where it is not, there is no stop
  pub not_held : {t : State} {k : Truth} → BodySays rules r s.up s.dropped k → ¬ (k ≡ Holds) → Narrows (Satisfies (lent rules) r) s t
      → RuleStepped rules r s t
  not_held k n m = record { narrows = m; stops = λ h d. absurd (n (held_told k h)) }

-- ---- the last open atom

held_holds : (rules : List ℕ) (r up dropped : ℕ) {answer : Bool} → HeldInAll rules r up dropped answer → answer ≡ true → (N : ℕ)
    → Completes (half_decided up dropped) N → Body (lent rules) r N
held_holds rules r up dropped h e N c = parts_body rules r N (λ p i. h.exactly.0 e p i N c)

-- where the whole head is dropped, the body of a rule that is satisfied fails; `left` has the one atom by which it may
module _ (rules : List ℕ) (r : ℕ) {s : State} (gone : (lent rules).head r ⊆ s.dropped) {left : ℕ} (one : AtMostOne left) where
  body_fails : (N : ℕ) → Satisfies (lent rules) r N → Completes s N → ¬ Body (lent rules) r N
  body_fails N k p b = let h = k.head_up b in p.no_dropped.none h.0 (gone.each h.0 h.1) h.2

  -- it would hold with that atom up
  pub last_dropped : {up down : ℕ} {answer : Bool} → up ≡ s.up ∪ left → HeldInAll rules r up s.dropped answer → answer ≡ true → down ≡ s.dropped ∪ left
      → Narrows (Satisfies (lent rules) r) s (record { up = s.up; dropped = down })
  last_dropped {up} e b f g =
      rw g (down_narrows s left (λ N k p. record { none = λ i h m. body_fails N k p (holds N p (whole N i h m)) }))
    where
      whole : (N i : ℕ) → Has left i → Has N i → left ⊆ N
      whole N i h m = record { each = λ j k. subst (λ (x : ℕ). Has N x) (one.same i j h k) m }

      holds : (N : ℕ) → Completes s N → left ⊆ N → Body (lent rules) r N
      holds N p w =
          held_holds rules r up s.dropped b f N
          (completes_known {s = record { up = up; dropped = s.dropped }} (rw e (with_all_up s left p w)))

  -- it would hold with that atom dropped
  pub last_up : {up down : ℕ} {answer : Bool} → down ≡ s.dropped ∪ left → HeldInAll rules r s.up down answer → answer ≡ true → up ≡ s.up ∪ left
      → Narrows (Satisfies (lent rules) r) s (record { up = up; dropped = s.dropped })
  last_up {down = down} e b f g =
      rw g (up_narrows s left (λ N k p. record { each = λ i h. found N k p i h (has_dec N i) }))
    where
      none : (N i : ℕ) → Has left i → ¬ Has N i → Apart left N
      none N i h n = record { none = λ j k m. n (subst (λ (x : ℕ). Has N x) (one.same j i k h) m) }

      found : (N : ℕ) → Satisfies (lent rules) r N → Completes s N → (i : ℕ) → Has left i → Dec (Has N i) → Has N i
      found N k p i h (yes m) = m
      found N k p i h (no n) =
          absurd
          (body_fails N k p
          (held_holds rules r s.up down b f N
          (completes_known {s = record { up = s.up; dropped = down }} (rw e (with_all_dropped s left p (none N i h n))))))

-- ---- rules that are met

module _ (rules : List ℕ) (r : ℕ) {s : State} where
  -- a head atom is up
  pub met_by_head : {h : ℕ} {a : Bool} → h ≡ (lent rules).head r → a ≡ apart h s.up → not a ≡ true → AlwaysSatisfied (lent rules) r s
  met_by_head {h} {a} reads e f = go (shared_atom h s.up (λ z. (decides_apart h s.up).no (sym e ∙ not-true a f) (apart_of_cut h s.up z)))
    where
      go : ((i : ℕ) × Has h i × Has s.up i) → AlwaysSatisfied (lent rules) r s
      go k = record { each = λ N c. record { head_up = λ b. (k.0, rw reads at k.1, c.has_up.each k.0 k.2) } }

  -- the body fails
  pub met_by_body : {t : Truth} → BodySays rules r s.up s.dropped t → t ≡ Fails → AlwaysSatisfied (lent rules) r s
  met_by_body k e = record {
    each = λ N c. record { head_up = λ b. absurd (known_fails rules r s.up s.dropped k N (completes_known c) e b) };
  }

-- ---- a round

-- a rule that is met stays so in a larger state
met_later : {P : Program} {K : ℕ → Type 0} {r : ℕ} {s t : State} → Narrows K s t → AlwaysSatisfied P r s → AlwaysSatisfied P r t
met_later n m = record { each = λ N c. m.each N (completes_back n c) }

pub sifted_start : {P : Program} {which : ℕ} {s : State} → Sifted P which s which (record { state = s; left = which })
sifted_start = record { narrows = narrows_refl; part = subset_refl; gone = λ r h n. absurd (n h) }

pub sifted_next : {P : Program} {which word r : ℕ} {s : State} {p q : Passed} → Has which r → Sifted P which s word p
    → Sifted P (atom r) p.state p.left q → Sifted P which s word q
sifted_next {P} {which} {word} {r} {s} {p} {q} h f g = record {
  narrows = narrows_trans f.narrows (narrows_for only g.narrows);
  part = subset_trans g.part f.part;
  gone = λ i k n. cases i k n (has_dec p.left i);
}
  where
    only : (N : ℕ) → SatisfiesAll P which N → SatisfiesAll P (atom r) N
    only N all = record { each = λ i k. all.each i (rw (atom_only r k) at h) }

    cases : (i : ℕ) → Has word i → ¬ Has q.left i → Dec (Has p.left i) → AlwaysSatisfied P i q.state
    cases i k n (yes l) = g.gone i l n
    cases i k n (no l) = met_later g.narrows (f.gone i k l)

-- as the loop finds it: the turn starts from a record that was read
pub sifted_turn : {P : Program} {which word r : ℕ} {s : State} {x p q : Passed} → Has which r → Sifted P which s word p → x ≡ p
    → Sifted P (atom r) x.state x.left q → Sifted P which s word q
sifted_turn h f e g = sifted_next h f (rw e at g)

-- the rule of the turn: it goes where it is met, and else stays
module _ {P : Program} {r : ℕ} (p : Passed) {q : Passed} where
  pub sifted_met : AlwaysSatisfied P r p.state → q ≡ record { state = p.state; left = p.left ∖ atom r } → Sifted P (atom r) p.state p.left q
  sifted_met m e = rw e (record {
    narrows = narrows_refl;
    part = record { each = λ i h. without_left p.left (atom r) h };
    gone = λ i h n. go i h n (has_dec (atom r) i);
  })
    where
      go : (i : ℕ) → Has p.left i → ¬ Has (p.left ∖ atom r) i → Dec (Has (atom r) i) → AlwaysSatisfied P i p.state
      go i h n (yes k) = rw (atom_only r k) at m
      go i h n (no k) = absurd (n (has_without p.left (atom r) h k))

  pub sifted_on : {t : State} → Narrows (Satisfies P r) p.state t → q ≡ record { state = t; left = p.left }
      → Sifted P (atom r) p.state p.left q
  sifted_on n e = rw e (record {
    narrows = narrows_for (λ N all. all.each r (has_atom r)) n;
    part = subset_refl;
    gone = λ i h k. absurd (k h);
  })

-- one round after another, over the rules that are left
pub rounds_narrow : {P : Program} {which : ℕ} {s : State} {p q : Passed} → Sifted P which s which p → Sifted P p.left p.state p.left q
    → Narrows (SatisfiesAll P which) p.state q.state
rounds_narrow f g = narrows_for (λ N all. record { each = λ i k. all.each i (f.part.each i k) }) g.narrows

pub sifted_more : {P : Program} {which : ℕ} {s : State} {p q : Passed} → Sifted P which s which p → Sifted P p.left p.state p.left q
    → Sifted P which s which q
sifted_more {P} {which} {s} {p} {q} f g = record {
  narrows = narrows_trans f.narrows (rounds_narrow f g);
  part = subset_trans g.part f.part;
  gone = λ i k n. cases i k n (has_dec p.left i);
}
  where
    cases : (i : ℕ) → Has which i → ¬ Has q.left i → Dec (Has p.left i) → AlwaysSatisfied P i q.state
    cases i k n (yes l) = g.gone i l n
    cases i k n (no l) = met_later g.narrows (f.gone i k l)
