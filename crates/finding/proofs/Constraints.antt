-- Fewer constraints have no fewer answer sets, and so the greedy pass is right.
use Rattle.finding.proofs.Prelude.{◌≡◌, refl, subst, ◌⊎◌, inl, inr, List, ℕ, ◌^◌, ◌<◌, ℕ_discrete, get_or, ATOMS, Has, ◌⊆◌, ◌∪◌, ◌∖◌, atom, Lowest}
use Rattle.finding.proofs.Prelude.{has_none, has_left, has_right, union_cases, has_without, without_left, without_right, has_atom, atom_only}
use Rattle.finding.proofs.Prelude.{subset_refl, subset_trans, AnswerSet, lent, Lent, State, Job, Witnessed, Option, Some, None, unit_of}
use Rattle.finding.proofs.Prelude.{Unpiloted, Standing, Rooted}
use Rattle.answer_sets.proofs.Support.{fewer_constraints}
use Rattle.searching.specs.Witness.{none}
use Rattle.searching.proofs.Witnesses.{witnessed_iff, witnessed_met}
use Rattle.finding.proofs.Wholes.{fits_answers, answers_fit}
use Rattle.finding.specs.Few.{Constraints, NoneSettled, OneSettled, Tried, drops, keeps, Going, done, tries, FewBlamed}

-- ---- what was asked

met_as : {Q : ℕ → Type 0} {w : Option ℕ} {M : ℕ} → w ≡ Some M → Witnessed Q w → Q M
met_as {M = M} e k = witnessed_met (record { member = M; is = e }) k

none_as : {Q : ℕ → Type 0} {w : Option ℕ} → w ≡ None → Witnessed Q w → Witnessed Q None
none_as {Q} e k = subst (Witnessed Q) e k

nobody : {Q : ℕ → Type 0} → Witnessed Q None → (M : ℕ) → ¬ Q M
nobody (none f) = f

-- ---- fewer constraints

module _ {rules : List ℕ} {facts : ℕ} (headed : ℕ) where
  -- said of words of constraints
  pub settled_fewer : (more fewer : ℕ) → fewer ⊆ more → Constraints rules more → OneSettled rules (headed ∪ more) facts
      → OneSettled rules (headed ∪ fewer) facts
  settled_fewer more fewer f c o = record { member = o.member; answers = fewer_constraints wider split o.answers }
    where
      wider : headed ∪ fewer ⊆ headed ∪ more
      wider = record { each = λ i h. go i (union_cases headed fewer h) }
        where
          go : (i : ℕ) → Has headed i ⊎ Has fewer i → Has (headed ∪ more) i
          go i (inl h) = has_left headed more h
          go i (inr h) = has_right headed more (f.each i h)

      split : (r : ℕ) → Has (headed ∪ more) r → Has (headed ∪ fewer) r ⊎ ((lent rules).head r ≡ 0)
      split r h = go (union_cases headed more h)
        where
          go : Has headed r ⊎ Has more r → Has (headed ∪ fewer) r ⊎ ((lent rules).head r ≡ 0)
          go (inl k) = inl (has_left headed fewer k)
          go (inr k) = inr (c.headless r k)

-- ---- the loop

-- what is held, where those of `rest` are still to be tried
pub record HeldSoFar (rules : List ℕ) (headed constraints facts held rest : ℕ) : Type 0 where
  pub going : (r : ℕ) → Going rules headed facts rest held r → Going rules headed facts constraints constraints r
  pub within : held ⊆ constraints
  pub untried : rest ⊆ held
  pub none : NoneSettled rules (headed ∪ held) facts
  pub each : (c : ℕ) → Has held c → ¬ Has rest c → OneSettled rules (headed ∪ (held ∖ atom c)) facts

pub held_start : {rules : List ℕ} {headed constraints facts rest : ℕ} → rest ≡ constraints → NoneSettled rules (headed ∪ constraints) facts
    → HeldSoFar rules headed constraints facts constraints rest
held_start e n = rw e (record {
  going = λ r g. g;
  within = subset_refl;
  untried = subset_refl;
  none = n;
  each = λ c h m. absurd (m h);
})

pub held_end : {rules : List ℕ} {headed constraints facts held rest : ℕ} → HeldSoFar rules headed constraints facts held rest → rest ≡ 0
    → FewBlamed rules headed constraints facts held
held_end {rules} {headed} {constraints} {facts} {held} h e = record {
  greedy = h.going held (rw e done);
  within = h.within;
  none = h.none;
  each = λ c k. h.each c k (λ m. has_none (rw e at m));
}

module _ {rules : List ℕ} {headed constraints facts held rest c : ℕ} (cs : Constraints rules constraints)
    (h : HeldSoFar rules headed constraints facts held rest) (low : Lowest rest c) where
  other : {rest' : ℕ} → rest' ≡ rest ∖ atom c → (d : ℕ) → ¬ Has rest' d → ¬ (c ≡ d) → ¬ Has rest d
  other e d m n k = m (rw e (has_without rest (atom c) k (λ q. n (atom_only c q))))

  pub held_step : {next rest' : ℕ} → Tried rules headed held facts c next → rest' ≡ rest ∖ atom c → HeldSoFar rules headed constraints facts next rest'
  held_step {next} {rest'} t e = go t
    where
      goes : (r : ℕ) → Going rules headed facts rest' next r → Going rules headed facts constraints constraints r
      goes r g = h.going r (tries low t (rw e at g))

      go : Tried rules headed held facts c next → HeldSoFar rules headed constraints facts next rest'
      go (drops q n) = record {
        going = goes;
        within = rw q (subset_trans (record { each = λ i k. without_left held (atom c) k }) h.within);
        untried = rw q (rw e (record {
          each = λ i k. has_without held (atom c) (h.untried.each i (without_left rest (atom c) k)) (without_right rest (atom c) k);
        }));
        none = rw q n;
        each = λ d k m.
            let here : Has (held ∖ atom c) d = rw q at k in
            rw q
            (settled_fewer headed (held ∖ atom d) ((held ∖ atom c) ∖ atom d)
            (record {
              each = λ i p.
                  has_without held (atom d) (without_left held (atom c) (without_left (held ∖ atom c) (atom d) p)) (without_right (held ∖ atom c) (atom d) p);
            })
            (record { headless = λ r p. cs.headless r (h.within.each r (without_left held (atom d) p)) })
            (h.each d (without_left held (atom c) here) (other e d m (λ x. without_right held (atom c) here (subst (Has (atom c)) x (has_atom c))))));
      }
      go (keeps q o) = record {
        going = goes;
        within = rw q h.within;
        untried = rw q (rw e (record { each = λ i k. h.untried.each i (without_left rest (atom c) k) }));
        none = rw q h.none;
        each = λ d k m. rw q (kept d (rw q at k) m (ℕ_discrete c d));
      }
        where
          kept : (d : ℕ) → Has held d → ¬ Has rest' d → Dec (c ≡ d) → OneSettled rules (headed ∪ (held ∖ atom d)) facts
          kept d k m (yes x) = subst (λ (y : ℕ). OneSettled rules (headed ∪ (held ∖ atom y)) facts) x o
          kept d k m (no x) = h.each d k (other e d m x)

-- ---- the questions

pub lent_some : {rules : List ℕ} (headed held others : ℕ) {which : ℕ} → others ⊆ held → which ≡ headed ∪ others → Lent rules (headed ∪ held)
    → Lent rules which
lent_some headed held others f e l = rw e (record { each = λ r h. l.each r (go r (union_cases headed others h)) })
  where
    go : (r : ℕ) → Has headed r ⊎ Has others r → Has (headed ∪ held) r
    go r (inl h) = has_left headed held h
    go r (inr h) = has_right headed held (f.each r h)

pub others_within : (held c : ℕ) {others : ℕ} → others ≡ held ∖ atom c → others ⊆ held
others_within held c e = rw e (record { each = λ i h. without_left held (atom c) h })

pub any_asked : (rules : List ℕ) {desk memory : List ℕ} {unit : Job} {which facts : ℕ} {root : State} {w : Option ℕ}
    → ((i : ℕ) → get_or rules i 0 < 2 ^ ATOMS) → facts < 2 ^ ATOMS → which < 2 ^ ATOMS → unit ≡ unit_of desk which facts
    → Standing rules desk memory unit facts root → Rooted rules desk unit facts root → Witnessed (Unpiloted rules desk unit facts root) w
    → Witnessed (AnswerSet (lent rules) which facts) w
any_asked rules g f h e y t k = witnessed_iff (λ M q. fits_answers y e h q) (λ M a. answers_fit g f h e t a) k

module _ {rules : List ℕ} {headed held facts c others which : ℕ} (o : others ≡ held ∖ atom c) (e : which ≡ headed ∪ others) where
  pub tried_keeps : {w : Option ℕ} {M : ℕ} → w ≡ Some M → Witnessed (AnswerSet (lent rules) which facts) w → Tried rules headed held facts c held
  tried_keeps {M = M} q k = keeps refl (rw (← o) (rw (← e) (record { member = M; answers = met_as q k })))

  pub tried_drops : {w : Option ℕ} → w ≡ None → Witnessed (AnswerSet (lent rules) which facts) w → Tried rules headed held facts c others
  tried_drops q k = drops o (rw (← o) (rw (← e) (record { nobody = nobody (none_as q k) })))
