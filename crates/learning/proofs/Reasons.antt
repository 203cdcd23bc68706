-- Reasons: a goal told by a step, a pair with the reason in the goal's place, and a nogood lifted over a trail.
use Rattle.learning.proofs.Prelude.{◌≡◌, sym, ap, ◌∙◌, Bool, true, false, not, true≢false, ◌⊎◌, inl, inr, List, ℕ, arith, not-true, not-false, Has}
use Rattle.learning.proofs.Prelude.{AtMostOne, Apart, apart, ◌∩◌, ◌∪◌, Decides, has_cut, has_left, has_right, has_without, has_dec, decides_apart}
use Rattle.learning.proofs.Prelude.{not_both, Completes, Narrows, Within, Overlaps, State, Avoids, Nogood, AvoidsAll, Empty, Keeps, SamePairs, Learnt}
use Rattle.learning.proofs.Prelude.{Heeds, Remembers, Explains, Tells, beyond_of, replaced, Leads, Lifted, WorthLearning, LearntOnce, completes_within}
use Rattle.learning.proofs.Prelude.{narrows_for}
use Rattle.learning.proofs.Nogoods.{overlap_avoided}
use Rattle.learning.proofs.Stores.{keeps_refl, keeps_same, same_pairs}

-- ---- a goal and its reason

-- the goal itself, and what a step tells
pub explains_refl : {K : ℕ → Type 0} {goal : State} → Explains K goal goal
explains_refl = record { completes = λ N k c. c }

pub explains_told : {K : ℕ → Type 0} {part t goal : State} → Narrows K part t → Tells t goal → Explains K part goal
explains_told {K} {part} {t} {goal} n w = record { completes = λ N k c. go N (n.keeps N k c) w.told }
  where
    go : (N : ℕ) → Completes t N → Within goal t ⊎ Overlaps t → Completes goal N
    go N c (inl h) = completes_within h c
    go N c (inr o) = absurd ((overlap_avoided N o).never c)

-- the two tests
pub overlap_tells : {t goal : State} → ¬ Apart t.up t.dropped → Decides (Tells t goal) true
overlap_tells o = record { yes = λ e. record { told = inr (record { overlap = o }) }; no = λ e. absurd (true≢false e) }

pub within_tells : {t goal : State} {r : Bool} → Apart t.up t.dropped → Decides (Within goal t) r → Decides (Tells t goal) r
within_tells {t} {goal} {r} a d = record { yes = λ e. record { told = inl (d.yes e) }; no = λ e w. go e w.told }
  where
    go : r ≡ false → Within goal t ⊎ Overlaps t → ⊥
    go e (inl h) = d.no e h
    go e (inr o) = o.overlap a

-- a completion of the pair with the reason in place of the goal completes the pair
replaced_completes : (n s part : State) {N : ℕ} → Completes (replaced n s part) N → Completes (beyond_of n s) N → Completes n N
replaced_completes n s part {N} c g = record {
  has_up = record { each = λ i h. up i h (has_dec s.up i) };
  no_dropped = record { none = λ i h m. down i h m (has_dec s.dropped i) };
}
  where
    up : (i : ℕ) → Has n.up i → Dec (Has s.up i) → Has N i
    up i h (yes k) = c.has_up.each i (has_left (n.up ∩ s.up) part.up (has_cut n.up s.up h k))
    up i h (no k) = g.has_up.each i (has_without n.up s.up h k)

    down : (i : ℕ) → Has n.dropped i → Has N i → Dec (Has s.dropped i) → ⊥
    down i h m (yes k) =
        c.no_dropped.none i (has_left (n.dropped ∩ s.dropped) part.dropped (has_cut n.dropped s.dropped h k)) m
    down i h m (no k) = g.no_dropped.none i (has_without n.dropped s.dropped h k) m

replaced_part : (n s part : State) → Within part (replaced n s part)
replaced_part n s part = record {
  up_within = record { each = λ i h. has_right (n.up ∩ s.up) part.up h };
  dropped_within = record { each = λ i h. has_right (n.dropped ∩ s.dropped) part.dropped h };
}

-- so the pair stays a nogood
pub replaced_leads : {K : ℕ → Type 0} (n s part : State) {goal r : State} → goal ≡ beyond_of n s → Explains K part goal → r ≡ replaced n s part
    → Leads K n r
replaced_leads {K} n s part e x f = rw f (record {
  avoided = λ N k a. record {
    never = λ c. a.never (replaced_completes n s part c (rw e at (x.completes N k (completes_within (replaced_part n s part) c))));
  };
})

pub leads_refl : {K : ℕ → Type 0} {n : State} → Leads K n n
leads_refl = record { avoided = λ N k a. a }

-- ---- over a trail

pub lifted_start : {K : ℕ → Type 0} {n : State} {memory : List ℕ} → Lifted K n memory memory n
lifted_start = record { keeps = keeps_refl; leads = leads_refl }

module _ {K : ℕ → Type 0} {n r : State} {before memory : List ℕ} (l : Lifted K n before memory r) where
  -- the pair so far is learnt, or not
  pub lifted_learn : {after : List ℕ} → Keeps (Avoids r) memory after → Lifted K n before after r
  lifted_learn k = record {
    keeps = record {
      same_length = k.same_length ∙ l.keeps.same_length;
      keeps = λ N q a. k.keeps N (l.leads.avoided N (record { has = q.0; avoids = a }) q.1) (l.keeps.keeps N q a);
    };
    leads = l.leads;
  }

  -- it leads to another
  pub lifted_over : {next : State} → Leads (Heeds K memory) r next → Lifted K n before memory next
  lifted_over m = record {
    keeps = l.keeps;
    leads = record {
      avoided = λ N h a.
          m.avoided N (record { has = h.has; avoids = l.keeps.keeps N (h.has, a) h.avoids }) (l.leads.avoided N h a);
    };
  }

-- ---- what is remembered

module _ {K : ℕ → Type 0} where
  pub remembers_empty : {memory : List ℕ} → Empty memory → Remembers K memory
  remembers_empty e = record { long = omega (arith, e.long); avoids = λ N k. e.avoided N }

  module _ {before after : List ℕ} (r : Remembers K before) where
    pub remembers_keeps : {Q : ℕ → Type 0} → ((N : ℕ) → K N → Q N) → Keeps Q before after → Remembers K after
    remembers_keeps f k = record {
      long = omega (arith, r.long, k.same_length);
      avoids = λ N h. k.keeps N (f N h) (r.avoids N h);
    }

    pub remembers_same : SamePairs before after → Remembers K after
    remembers_same m = remembers_keeps (λ N h. h) (keeps_same m)

    -- a nogood is lifted to one, and what is learnt on the way is remembered
    pub lifted_nogood : {n t : State} → Lifted K n before after t → Nogood K n → Nogood K t
    lifted_nogood l g = record { avoided = λ N h. l.leads.avoided N (record { has = h; avoids = r.avoids N h }) (g.avoided N h) }

    pub lifted_remembers : {n t : State} → Lifted K n before after t → Nogood K n → Remembers K after
    lifted_remembers l g = remembers_keeps (λ N h. (h, g.avoided N h)) l.keeps

  -- a step that keeps who avoids all pairs keeps whoever has K
  pub remembered_narrows : {memory : List ℕ} {s t : State} → Remembers K memory → Narrows (AvoidsAll memory) s t → Narrows K s t
  remembered_narrows r n = narrows_for (λ N h. r.avoids N h) n

-- who completes a reason of what nothing completes is no member
pub reason_nogood : {K : ℕ → Type 0} {memory : List ℕ} {part goal : State} → Remembers K memory → Explains (Heeds K memory) part goal → Overlaps goal
    → Nogood K part
reason_nogood r e o = record {
  avoided = λ N h. record { never = λ c. (overlap_avoided N o).never (e.completes N (record { has = h; avoids = r.avoids N h }) c) };
}

-- ---- a pair is learnt once

module _ (base n : State) {new : State} {all : ℕ} {b : Bool} (e : new ≡ beyond_of n base)
    (u : all ≡ new.up ∪ new.dropped) (d : Decides (AtMostOne all) b) where
  same : all ≡ (beyond_of n base).up ∪ (beyond_of n base).dropped
  same = u ∙ ap (λ (x : State). x.up ∪ x.dropped) e

  -- it names too much
  pub names_many : not b ≡ true → ¬ WorthLearning base n
  names_many t w = d.no (not-true b t) (rw same w.few)

  pub worth_learning : {a : Bool} → a ≡ apart n.up n.dropped → not a ≡ false → not b ≡ false → WorthLearning base n
  worth_learning {a} f t k = record {
    completed = (decides_apart n.up n.dropped).yes (sym f ∙ not-false a t);
    few = rw same at (d.yes (not-false b k));
  }

module _ {base n : State} where
  -- nothing completes it
  pub contradicts : {a : Bool} → a ≡ apart n.up n.dropped → not a ≡ true → ¬ WorthLearning base n
  contradicts {a} e t w = (decides_apart n.up n.dropped).no (sym e ∙ not-true a t) w.completed

  pub once_before : {learnt : Bool} {memory : List ℕ} → learnt ≡ true → LearntOnce base n learnt memory memory true
  once_before e = record {
    told = record { yes = λ f. inl e; no = λ f. absurd (true≢false f) };
    stored = λ f g. absurd (not_both e f);
    same = λ f. same_pairs;
  }

  pub once_not : {learnt : Bool} {before after : List ℕ} → learnt ≡ false → ¬ WorthLearning base n → SamePairs before after
      → LearntOnce base n learnt before after false
  once_not {learnt} e w m = record {
    told = record { yes = λ f. absurd (true≢false (sym f)); no = λ f h. never h };
    stored = λ f g. absurd (true≢false (sym g));
    same = λ f. m;
  }
    where
      never : (learnt ≡ true) ⊎ WorthLearning base n → ⊥
      never (inl f) = not_both f e
      never (inr f) = w f

  pub once_now : {learnt : Bool} {before memory after : List ℕ} → learnt ≡ false → WorthLearning base n → Learnt n before memory → SamePairs memory after
      → {first : List ℕ} → LearntOnce base n learnt first after true
  once_now {learnt} e w k m = record {
    told = record { yes = λ f. inr w; no = λ f. absurd (true≢false f) };
    stored = λ f g. (k.place, k.in_ring, m.same k.place (omega (arith, k.in_ring)) ∙ k.stored);
    same = λ f. absurd (never f);
  }
    where
      never : (learnt ≡ true) ⊎ (true ≡ false) → ⊥
      never (inl f) = not_both f e
      never (inr f) = true≢false f
