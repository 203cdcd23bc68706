-- The subset test: what each of its steps says of the completions of a state that are proper subsets of M and satisfy the rules.
use Rattle.answer_sets.proofs.Prelude.{◌≡◌, refl, sym, ◌∙◌, Bool, true, false, not, true≢false, false≢true, ◌⊎◌, inl, inr, List, ℕ, ◌<◌, ◌^◌, arith}
use Rattle.answer_sets.proofs.Prelude.{not-true, ATOMS, Has, ◌⊆◌, Apart, apart, atom, outside, Decides, decides_iff, decides_same, decided_false}
use Rattle.answer_sets.proofs.Prelude.{decides_apart, has_dec, has_lt, has_left, subset_refl, subset_trans, subset_antisym, has_outside, outside_lacks}
use Rattle.answer_sets.proofs.Prelude.{Program, Body, Satisfies, SatisfiesAll, lent, Lent, Completes, undecided, branch_of, Sifted, Between, Finds}
use Rattle.answer_sets.proofs.Prelude.{Tries, Lasts, UNBOUNDED, subsets_of, Confines, Candidates, InRule, in_head, in_looks, Smaller, SubsetTested}
use Rattle.answer_sets.proofs.Prelude.{SmallerSet, State, Passed, completes_back, overlap_none, with_up_lem, with_dropped_lem, without_up, without_dropped}
use Rattle.answer_sets.proofs.Prelude.{decided_cases}
use Rattle.answer_sets.specs.declared.smaller.Smaller.{Smaller as Answer}
use Rattle.answer_sets.proofs.Bodies.{rest_same}
use Rattle.answer_sets.proofs.JudgedSets.{decides_smaller}

-- ---- which completions lie within M

pub confines_more : {M d e : ℕ} → Confines M d → d ⊆ e → Confines M e
confines_more c f = record { outside = λ i l h. f.each i (c.outside i l h) }

-- a branch has no fewer dropped
pub confines_branch : {M : ℕ} (s : State) (i : ℕ) (b : Bool) {t : State} → Confines M s.dropped → t ≡ branch_of s i b → Confines M t.dropped
confines_branch s i true c e = rw e c
confines_branch s i false c e = rw e (confines_more c (record { each = λ j h. has_left s.dropped (atom i) h }))

pub lent_part : {rules : List ℕ} {which left : ℕ} → Lent rules which → left ⊆ which → Lent rules left
lent_part k f = record { each = λ r h. k.each r (f.each r h) }

pub confines_outside : {M d : ℕ} → d ≡ outside M → Confines M d
confines_outside {M} e = rw e (record { outside = λ i l n. has_outside M l n })

-- ---- the steps

module _ {P : Program} {which M : ℕ} where
  -- the same set completes another state
  between_as : {s t : State} (b : Between P which M s) → Completes t b.set → Between P which M t
  between_as b c = record { set = b.set; proper = b.proper; completes = c; satisfied = b.satisfied }

  -- the rules that a round leaves out are satisfied
  passed_back : {s : State} {p : Passed} → Sifted P which s which p → Between P p.left M p.state → Between P which M s
  passed_back {s} {p} k b = record {
    set = b.set;
    proper = b.proper;
    completes = completes_back k.narrows b.completes;
    satisfied = record { each = λ i h. go i h (has_dec p.left i) };
  }
    where
      go : (i : ℕ) → Has which i → Dec (Has p.left i) → Satisfies P i b.set
      go i h (yes l) = b.satisfied.each i l
      go i h (no n) = (k.gone i h n).each b.set b.completes

  -- and else it changes nothing
  pub finds_passed : {s : State} {p : Passed} {r : Bool} {set : ℕ} → Sifted P which s which p → Finds P p.left M p.state r set
      → Finds P which M s r set
  unfolding passed_back
  finds_passed {s} {p} k f = record {
    exactly = decides_iff (passed_back k) on f.exactly;
    shown = λ e. let b = f.shown e in (passed_back k b.0, b.1);
    none = f.none;
  }
    where
      on : Between P which M s → Between P p.left M p.state
      on b = record {
        set = b.set;
        proper = b.proper;
        completes = k.narrows.keeps b.set b.satisfied b.completes;
        satisfied = record { each = λ i l. b.satisfied.each i (k.part.each i l) };
      }

  pub finds_none : {t : State} → ¬ Between P which M t → Finds P which M t false 0
  finds_none n = record {
    exactly = record { yes = λ g. absurd (false≢true g); no = λ g. n };
    shown = λ g. absurd (false≢true g);
    none = λ g. refl;
  }

  -- an overlap: none
  pub between_clash : {t : State} {r : Bool} → r ≡ apart t.up t.dropped → not r ≡ true → Finds P which M t false 0
  between_clash {t} {r} e f =
      finds_none (λ b. overlap_none (record { overlap = (decides_apart t.up t.dropped).no (sym e ∙ not-true r f) }) b.completes)

  -- all atoms of M are up: none
  pub between_whole : {t : State} → t.up ≡ M → Finds P which M t false 0
  between_whole e = finds_none (λ b. b.proper.short (rw e at b.completes.has_up))

  -- the atoms that are up satisfy the rules, and are not all of M: they are such a set
  pub between_model : {t : State} → t.up < 2 ^ ATOMS → Confines M t.dropped → Apart t.up t.dropped → ¬ (t.up ≡ M)
      → SatisfiesAll P which t.up → Finds P which M t true t.up
  between_model {t} fits conf free less all = record {
    exactly = record { yes = λ g. found; no = λ g. absurd (true≢false g) };
    shown = λ g. (found, refl);
    none = λ g. absurd (true≢false g);
  }
    where
      inside : t.up ⊆ M
      inside = record { each = λ i p. go i p (has_dec M i) }
        where
          go : (i : ℕ) → Has t.up i → Dec (Has M i) → Has M i
          go i p (yes q) = q
          go i p (no n) = absurd (free.none i p (conf.outside i (has_lt t.up ATOMS fits p) n))

      found : Between P which M t
      found = record {
        set = t.up;
        proper = record { within = inside; short = λ f. less (subset_antisym inside f) };
        completes = record { has_up = subset_refl; no_dropped = record { none = λ i p q. free.none i q p } };
        satisfied = all;
      }

  -- one atom is tried both ways
  raised : (i : ℕ) {s : State} → Between P which M (branch_of s i true) → Between P which M s
  raised i {s} b = between_as b (without_up s i b.completes)

  lowered : (i : ℕ) {s : State} → Between P which M (branch_of s i false) → Between P which M s
  lowered i {s} b = between_as b (without_dropped s i b.completes)

  pub branch_yes : (i : ℕ) {s t : State} {r : Bool} {set : ℕ} → t ≡ branch_of s i true → Finds P which M t r set → r ≡ true
      → Finds P which M s true set
  unfolding raised between_as
  branch_yes i {s} {set = set} u d e = record {
    exactly = record { yes = λ f. shown.0; no = λ f. absurd (true≢false f) };
    shown = λ f. shown;
    none = λ f. absurd (true≢false f);
  }
    where
      shown : (b : Between P which M s) × (b.set ≡ set)
      shown = let b = (rw u at d).shown e in (raised i b.0, b.1)

  pub branch_no : (i : ℕ) {s t u : State} {q r : Bool} {set₁ set : ℕ} → t ≡ branch_of s i true → u ≡ branch_of s i false
      → Finds P which M t q set₁ → q ≡ false → Finds P which M u r set → Finds P which M s r set
  unfolding lowered between_as
  branch_no i {s} {r = r} {set = set} u v d e f = record {
    exactly = decides_iff (lowered i) (λ b. go b (has_dec b.set i)) second.exactly;
    shown = λ h. let b = second.shown h in (lowered i b.0, b.1);
    none = f.none;
  }
    where
      second : Finds P which M (branch_of s i false) r set
      second = rw v at f

      go : (b : Between P which M s) → Dec (Has b.set i) → Between P which M (branch_of s i false)
      go b (yes h) = absurd (d.exactly.no e (rw u (between_as b (with_up_lem s i b.completes h))))
      go b (no h) = between_as b (with_dropped_lem s i b.completes h)

-- ---- the same with so many branchings

pub lasts_trans : {a b c : ℕ} → Lasts a b → Lasts b c → Lasts a c
lasts_trans l m = record { unbounded = λ e. m.unbounded (l.unbounded e) }

-- with as many as it takes it is told
pub tries_unbounded : {P : Program} {which M : ℕ} {s : State} {r : Answer} → Tries P which M s UNBOUNDED r → Finds P which M s r.found r.set
tries_unbounded x = x.told (λ e. omega (arith, e, x.lasts.unbounded refl))

module _ {P : Program} {which M : ℕ} {s : State} {left : ℕ} where
  pub tries_told : {found : Bool} {set : ℕ} → Finds P which M s found set → Tries P which M s left (record { found = found; set = set; left = left })
  tries_told f = record { told = λ n. f; lasts = record { unbounded = λ e. e } }

  -- none is left: nothing is said
  pub tries_spent : {r : Answer} → Lasts left r.left → r.left ≡ 0 → Tries P which M s left r
  tries_spent l e = record { told = λ n. absurd (n e); lasts = l }

  module _ (i : ℕ) {spent : ℕ} {t : State} {p : Passed} {r : Answer} (l : Lasts left spent) (e : t ≡ branch_of s i true) (k : Sifted P which t which p)
      (x : Tries P p.left M p.state spent r) where
    -- with the atom up there is one
    pub tries_yes : r.found ≡ true → Tries P which M s left r
    tries_yes y = record {
      told = λ n. rw y (branch_yes i e (finds_passed k (x.told n)) y);
      lasts = lasts_trans l x.lasts;
    }

    -- there is none, and it is tried dropped
    pub tries_no : {u : State} {q : Passed} {r₂ : Answer} → r.found ≡ false → ¬ (r.left ≡ 0) → u ≡ branch_of s i false → Sifted P which u which q
        → Tries P q.left M q.state r.left r₂ → Tries P which M s left r₂
    tries_no n z f k₂ x₂ = record {
      told = λ z₂. branch_no i e f (finds_passed k (x.told z)) n (finds_passed k₂ (x₂.told z₂));
      lasts = lasts_trans (lasts_trans l x.lasts) x₂.lasts;
    }

-- ---- a rule that can come to be satisfied no more

module _ (rules : List ℕ) (r : ℕ) (t : State)
    (decided : (i : ℕ) → InRule rules r i → (i < ATOMS) × ¬ Has (undecided t.up t.dropped) i) (N : ℕ) (c : Completes t N) where
  -- a completion has no more of the rule's atoms than are up
  settled_atom : (i : ℕ) → InRule rules r i → Has N i → Has t.up i
  settled_atom i k h = go (decided_cases t.up t.dropped i (decided i k).0 (decided i k).1)
    where
      go : Has t.up i ⊎ Has t.dropped i → Has t.up i
      go (inl p) = p
      go (inr p) = absurd (c.no_dropped.none i p h)

  -- atoms that stand in the rule are up in N just where they are up here
  settled_body : Body (lent rules) r t.up → Body (lent rules) r N
  settled_body b = record {
    positive_up = subset_trans b.positive_up c.has_up;
    rest_holds = rest_same rules r N t.up (λ i p. (settled_atom i (in_looks p), c.has_up.each i)) ∙ b.rest_holds;
  }

  settled_rule : Satisfies (lent rules) r N → Satisfies (lent rules) r t.up
  settled_rule s = record {
    head_up = λ b.
        let h = s.head_up (settled_body b) in
        (h.0, h.1, settled_atom h.0 (in_head h.1) h.2);
  }

pub between_stuck : {rules : List ℕ} {which M r free w : ℕ} {t : State} → free ≡ undecided t.up t.dropped
    → Candidates rules r free w → w ≡ 0 → Has which r × ¬ Satisfies (lent rules) r t.up → Finds (lent rules) which M t false 0
between_stuck {rules} {r = r} {t = t} e k z u =
    finds_none (λ b. u.1 (settled_rule rules r t (rw e at (k.none_left z)) b.set b.completes (b.satisfied.each r u.0)))

-- ---- from the facts on

module _ {P : Program} {which facts M : ℕ} where
  smaller_of_between : Between P which M (subsets_of facts M) → Smaller P which facts M
  smaller_of_between b = record { set = b.set; proper = b.proper; facts_up = b.completes.has_up; satisfied = b.satisfied }

  between_of_smaller : Smaller P which facts M → Between P which M (subsets_of facts M)
  between_of_smaller s = record {
    set = s.set;
    proper = s.proper;
    completes = record {
      has_up = s.facts_up;
      no_dropped = record { none = λ i p q. outside_lacks M p (s.proper.within.each i q) };
    };
    satisfied = s.satisfied;
  }

  -- facts that are not all in M are in no subset of it
  facts_inside : Smaller P which facts M → facts ⊆ M
  facts_inside s = subset_trans s.facts_up s.proper.within

  smaller_set : {set : ℕ} {r : Bool} → Finds P which M (subsets_of facts M) r set → SmallerSet P which facts M r set
  unfolding smaller_of_between
  smaller_set d = record { shown = λ f. let b = d.shown f in (smaller_of_between b.0, b.1); none = d.none }

  subset_tested : {set : ℕ} {r : Bool} → which < 2 ^ ATOMS → Finds P which M (subsets_of facts M) r set → SubsetTested P which facts M r
  subset_tested {r = r} fits d = record {
    exactly = told;
    computed = decides_same told (decides_smaller P which facts M fits) (λ s. s) (λ s. s);
    facts_outside = λ n. decided_false told (λ s. n (facts_inside s));
  }
    where
      told : Decides (Smaller P which facts M) r
      told = decides_iff smaller_of_between between_of_smaller d.exactly

  -- what is told of the sets that the rounds leave is told of all
  pub tested_passed : {p : Passed} {set : ℕ} {r : Bool} → which < 2 ^ ATOMS → Sifted P which (subsets_of facts M) which p → Finds P p.left M p.state r set
      → SubsetTested P which facts M r × SmallerSet P which facts M r set
  tested_passed fits k d = let f = finds_passed k d in (subset_tested fits f, smaller_set f)

  -- they lie within the position
  pub passed_confines : {p : Passed} → Sifted P which (subsets_of facts M) which p → Confines M p.state.dropped
  passed_confines k = confines_more (confines_outside refl) k.narrows.dropped_grows
