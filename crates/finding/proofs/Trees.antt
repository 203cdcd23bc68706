-- The tree over undecided atoms: what is known at a node, its two branches, and that all below the dropped one are below all below the other.
use Rattle.finding.proofs.Prelude.{◌≡◌, refl, sym, ◌∙◌, subst, Bool, true, false, not, true≢false, false≢true, ◌⊎◌, inl, inr, List, [], List-as-Memᴰ, ℕ}
use Rattle.finding.proofs.Prelude.{◌+◌, ◌^◌, ◌≤◌, ◌<◌, arith, dec_lt, ones, length, get_or, set, ltb, not-true, not-false, ltb-true, lt-ltb, ATOMS, Has}
use Rattle.finding.proofs.Prelude.{◌⊆◌, subset, apart, high, ◌∪◌, ◌∖◌, outside, Highest, Decides, decides, has_lt, has_none, has_left}
use Rattle.finding.proofs.Prelude.{has_right, union_cases, has_without, without_left, without_right, has_atom, has_outside, subset_le, subset_antisym}
use Rattle.finding.proofs.Prelude.{subset_trans, subset_refl, decides_apart, decides_subset, member_get_or, index_of, high_same, high_with, high_without}
use Rattle.finding.proofs.Prelude.{high_mono, AnswerSet, lent, Completes, undecided, Narrows, branch_of, State, completes_back, Remembers, Wired, Job}
use Rattle.finding.proofs.Prelude.{Witnessed, met, Option, Some, None, no_lists, unit_of, hidden_of, Unpiloted, Standing, Rooted, Behind}
use Rattle.finding.proofs.Prelude.{from_start, above, Added, Sought, Due, OfferedNext, AllPassed, dark_of, Likely, Hinted, known, unknown, Looked, seen}
use Rattle.finding.proofs.Prelude.{unseen, KeptWitness, kept, left, PlaceIn, at_place, elsewhere, Descended, Further, Option, None, Some}
use Rattle.finding.proofs.Prelude.{WalkNode}
use Rattle.std.specs.Bool.{Decides as Answers}
use Rattle.std.specs.List.{HoldsAt}
use Rattle.std.proofs.lemmas.List.{get_or_default}
use Rattle.states.proofs.HalfDecided.{decided_cases, undecided_up, undecided_dropped, undecided_lt, undecided_intro}
use Rattle.states.proofs.Branches.{without_branch, some_branch, decided_falls}
use Rattle.searching.specs.Witness.{none}
use Rattle.finding.proofs.AddedWords.{added_none, added_full, added_one, added_iff, added_both}
use Rattle.finding.proofs.Walks.{behind_up, above_of}
use Rattle.finding.proofs.Wholes.{fits_settled, fits_answers, answers_fit}

-- ---- what is sought

pub among_told : (words : List ℕ) {m : ℕ} {r : Bool} → Answers r ((k : ℕ) × (k < length words) × HoldsAt (λ y. y ≡ m) words k)
    → Decides (List-as-Memᴰ m words) r
among_told words {m = m} {r = r} d = record {
  yes = λ e. let p = d.0 e in subst (λ (x : ℕ). List-as-Memᴰ x words) (p.2 0) (member_get_or words p.0 p.1);
  no = λ e a. let p = index_of words m a in absurd (true≢false (sym (d.1 (p.0, p.1, λ x. get_or_default words p.0 x 0 p.1 ∙ p.2)) ∙ e));
}

pub behind_from_start : {from : Option ℕ} {m : ℕ} → from ≡ None → Decides (Behind from m) true
behind_from_start e = rw e (decides true (λ _. from_start) (λ _. refl))

pub decides_below : (p m : ℕ) → Decides (p < m) (ltb p m)
decides_below p m = decides (ltb p m) (λ e. ltb-true p m e) (λ l. lt-ltb p m l)

pub behind_from_above : {from : Option ℕ} {p m : ℕ} {b : Bool} → from ≡ Some p → Decides (p < m) b → Decides (Behind from m) b
behind_from_above e d = rw e (record { yes = λ t. above (d.yes t); no = λ f q. d.no f (above_of q) })

pub sought_before : {from : Option ℕ} {passed : List ℕ} {m : ℕ} {b : Bool} → Decides (Behind from m) b → not b ≡ true → Decides (Sought from passed m) false
sought_before {b = b} d t = decides false (λ e. absurd (false≢true e)) (λ s. absurd (d.no (not-true b t) s.behind))

pub sought_new : {from : Option ℕ} {passed : List ℕ} {m : ℕ} {a b : Bool} → Decides (Behind from m) b → b ≡ true → Decides (List-as-Memᴰ m passed) a
    → Decides (Sought from passed m) (not a)
sought_new {a = a} {b = b} d f e = record {
  yes = λ t. record { behind = d.yes f; new = e.no (not-true a t) };
  no = λ t s. s.new (e.yes (not-false a t));
}

-- a completion has no atom that is dropped
pub passed_all : {from : Option ℕ} {s : State} {w : ℕ} {b : Bool} → w ≡ outside s.dropped → Decides (Behind from w) b → not b ≡ true → AllPassed s from
passed_all {s = s} {b = b} e d t = record {
  none = λ M l c q.
      d.no (not-true b t)
      (rw e
      (behind_up
      (subset_le
      (record { each = λ i h. has_outside s.dropped (has_lt M ATOMS l h) (λ o. c.no_dropped.none i o h) })) q));
}

-- ---- one is put in

module _ {from : Option ℕ} {passed : List ℕ} {m : ℕ} {b : Bool} (d : Decides (Sought from passed m) b) (list : List ℕ) (count : ℕ)
    (l : count < length list) where
  pub put_none : not b ≡ true → Added (OfferedNext from passed m) list count list count
  put_none t = added_none (omega arith) (λ N o. d.no (not-true b t) (subst (Sought from passed) o.is o.sought))

  pub put_one : not b ≡ false → Added (OfferedNext from passed m) list count (set list count m) (count + 1)
  put_one t = added_one list count m l (record { is = refl; sought = d.yes (not-false b t) }) (λ N o. o.is)

-- ---- what is known at a node

pub overlap_nothing : {rules desk : List ℕ} {unit : Job} {facts : ℕ} {s : State} {b : Bool} → b ≡ apart s.up s.dropped → not b ≡ true
    → Witnessed (Unpiloted rules desk unit facts s) None
overlap_nothing {s = s} {b = b} e t = none (λ M f.
    (decides_apart s.up s.dropped).no (sym e ∙ not-true b t)
    (record { none = λ i u d. f.wanted.completes.no_dropped.none i d (f.wanted.completes.has_up.each i u) }))

-- who fits the state completes it without pilots
pub fits_dark : {rules desk : List ℕ} {unit : Job} {facts : ℕ} {s : State} {M : ℕ} → Unpiloted rules desk unit facts s M
    → Completes (dark_of s (hidden_of unit facts)) M
fits_dark {unit = unit} {facts} {s} {M} f = rw f.is (record {
  has_up = record {
    each = λ i h. has_without f.whole X (f.wanted.completes.has_up.each i (without_left s.up X h)) (without_right s.up X h);
  };
  no_dropped = record { none = λ i h m. go i (union_cases s.dropped X h) m };
})
  where
    X : ℕ
    X = hidden_of unit facts

    go : (i : ℕ) → Has s.dropped i ⊎ Has X i → Has (f.whole ∖ X) i → ⊥
    go i (inl d) m = f.wanted.completes.no_dropped.none i d (without_left f.whole X m)
    go i (inr x) m = without_right f.whole X m x

module _ {rules desk memory : List ℕ} {unit : Job} {facts : ℕ} {from : Option ℕ} {s : State} (r : Standing rules desk memory unit facts s) where
  likely_fitting : {M : ℕ} → Unpiloted rules desk unit facts s M → Likely rules desk unit facts from s M
  likely_fitting f = record { word = (fits_settled r f).word; completes = fits_dark f; fits = λ b. f }

  pub looked_passed : {t : State} → t ≡ dark_of s (hidden_of unit facts) → AllPassed t from → Looked rules desk unit facts from s None
  looked_passed e a = unseen (λ M f b. a.none M (fits_settled r f).word (rw e (fits_dark f)) b)

  pub looked_asked : {w : Option ℕ} → Witnessed (Unpiloted rules desk unit facts s) w → Looked rules desk unit facts from s w
  looked_asked (met f) = seen (likely_fitting f)
  looked_asked (none n) = unseen (λ M f b. n M f)

module _ {rules desk : List ℕ} {unit : Job} {facts : ℕ} {from : Option ℕ} {s : State} where
  pub looked_known : {w : Option ℕ} {M : ℕ} → w ≡ Some M → Hinted rules desk unit facts from s w → Looked rules desk unit facts from s (Some M)
  looked_known {M = M} e h = go (subst (Hinted rules desk unit facts from s) e h)
    where
      go : Hinted rules desk unit facts from s (Some M) → Looked rules desk unit facts from s (Some M)
      go (known f) = seen f

  pub looked_seen : {w : Option ℕ} {M : ℕ} → w ≡ Some M → Looked rules desk unit facts from s w → Likely rules desk unit facts from s M
  looked_seen {M = M} e l = go (subst (Looked rules desk unit facts from s) e l)
    where
      go : Looked rules desk unit facts from s (Some M) → Likely rules desk unit facts from s M
      go (seen f) = f

-- ---- what is known of a branch

module _ {m : ℕ} {s : State} where
  pub kept_there : {a b : Bool} → m < 2 ^ ATOMS → a ≡ subset s.up m → not a ≡ false → b ≡ apart s.dropped m → not b ≡ false → KeptWitness m s (Some m)
  kept_there {a} {b} l e f g h = kept l (record {
    has_up = (decides_subset s.up m).yes (sym e ∙ not-false a f);
    no_dropped = (decides_apart s.dropped m).yes (sym g ∙ not-false b h);
  })

pub place_kept : {s : State} {from : Option ℕ} {p : ℕ} {w : Option ℕ} → from ≡ Some p → KeptWitness p s w → PlaceIn s from w
place_kept e (kept l c) = at_place l e c
place_kept e left = elsewhere

pub hinted_place : {rules desk : List ℕ} {unit : Job} {facts : ℕ} {from to : Option ℕ} {s t : State} {w : Option ℕ} → t ≡ dark_of s (hidden_of unit facts)
    → Further from to → PlaceIn t from w → Hinted rules desk unit facts to s w
hinted_place {from = from} {to} g f (at_place {p} l e c) = known (record { word = l; completes = rw g at c; fits = λ b. absurd (here (f.each p b)) })
  where
    here : ¬ Behind from p
    here b = let k = above_of (rw e at b) in omega arith
hinted_place g f elsewhere = unknown

-- ---- the two branches

branch_up_grows : (s : State) (k : ℕ) (phase : Bool) → s.up ⊆ (branch_of s k phase).up
branch_up_grows s k true = record { each = λ i h. has_left s.up _ h }
branch_up_grows s k false = subset_refl

-- who completes the state completes the branch of a phase that agrees with it
module _ {s : State} {k N : ℕ} (c : Completes s N) where
  up_branch : Has N k → Completes (branch_of s k true) N
  up_branch h = go (some_branch s k false c)
    where
      go : Completes (branch_of s k false) N ⊎ Completes (branch_of s k true) N → Completes (branch_of s k true) N
      go (inl d) = absurd (d.no_dropped.none k (has_right s.dropped _ (has_atom k)) h)
      go (inr d) = d

  down_branch : ¬ Has N k → Completes (branch_of s k false) N
  down_branch n = go (some_branch s k false c)
    where
      go : Completes (branch_of s k false) N ⊎ Completes (branch_of s k true) N → Completes (branch_of s k false) N
      go (inl d) = d
      go (inr d) = absurd (n (d.has_up.each k (has_right s.up _ (has_atom k))))

-- a position that fits, and lies in the branch, fits there
module _ {rules desk : List ℕ} {unit : Job} {facts : ℕ} (s : State) (k : ℕ) {t : State} (free : ¬ Has (hidden_of unit facts) k) where
  still_fits : (phase : Bool) → Narrows (Wired rules [] no_lists desk unit) (branch_of s k phase) t → {M : ℕ}
      → Completes (dark_of t (hidden_of unit facts)) M → Unpiloted rules desk unit facts s M → Unpiloted rules desk unit facts t M
  still_fits phase n {M} d f = record {
    whole = f.whole;
    wanted = record { belongs = f.wanted.belongs; completes = n.keeps f.whole f.wanted.belongs (there phase n) };
    is = f.is;
  }
    where
      X : ℕ
      X = hidden_of unit facts

      there : (phase : Bool) → Narrows (Wired rules [] no_lists desk unit) (branch_of s k phase) t → Completes (branch_of s k phase) f.whole
      there true n =
          up_branch f.wanted.completes
          (without_left f.whole X
          (subst (λ (w : ℕ). Has w k) f.is
          (d.has_up.each k (has_without t.up X (n.up_grows.each k (has_right s.up _ (has_atom k))) free))))
      there false n =
          down_branch f.wanted.completes
          (λ h. d.no_dropped.none k (has_left t.dropped X (n.dropped_grows.each k (has_right s.dropped _ (has_atom k))))
          (subst (λ (w : ℕ). Has w k) (sym f.is) (has_without f.whole X h free)))

pub descended : {rules desk : List ℕ} {unit : Job} {facts : ℕ} {from : Option ℕ} (s : State) (k : ℕ) (phase : Bool) {memory after : List ℕ} {node : WalkNode}
    {m : ℕ} {d : State} → Standing rules desk memory unit facts s → Likely rules desk unit facts from s m → ¬ Has (hidden_of unit facts) k
    → Narrows (Wired rules [] no_lists desk unit) (branch_of s k phase) node.front.state → Remembers (Wired rules [] no_lists desk unit) after
    → d ≡ dark_of node.front.state (hidden_of unit facts) → KeptWitness m d node.known → Descended rules desk after unit facts from s k phase node
descended {rules} {desk} {unit} {facts} {from} s k phase {node = node} {m} {d} r f free n a e w = record {
  is_node = record {
    stands = record {
      serves = r.serves;
      remembers = a;
      facts_up = subset_trans r.facts_up (subset_trans (branch_up_grows s k phase) n.up_grows);
    };
    hinted = go node.known w;
  };
  narrows = n;
}
  where
    go : (v : Option ℕ) → KeptWitness m d v → Hinted rules desk unit facts from node.front.state v
    go v (kept l c) = known (record {
      word = f.word;
      completes = rw e at c;
      fits = λ b. still_fits s k free phase n (rw e at c) (f.fits b);
    })
    go v left = unknown

-- ---- what is gathered

-- completions agree on all atoms that are decided
pub completion_has : {s : State} {M N i : ℕ} → Completes s M → Completes s N → i < ATOMS → ¬ Has (undecided s.up s.dropped) i → Has M i → Has N i
completion_has {s} {M} {N} {i} c d l n h = go (decided_cases s.up s.dropped i l n)
  where
    go : Has s.up i ⊎ Has s.dropped i → Has N i
    go (inl u) = d.has_up.each i u
    go (inr o) = absurd (c.no_dropped.none i o h)

completion_one : {s : State} {M N : ℕ} → undecided s.up s.dropped ≡ 0 → M < 2 ^ ATOMS → N < 2 ^ ATOMS → Completes s M → Completes s N → M ≡ N
completion_one {s} {M} {N} z m n c d =
    subset_antisym (record { each = λ i h. completion_has c d (has_lt M ATOMS m h) (free i) h })
    (record { each = λ i h. completion_has d c (has_lt N ATOMS n h) (free i) h })
  where
    free : (i : ℕ) → ¬ Has (undecided s.up s.dropped) i
    free i h = has_none (rw z at h)

-- of two completions that differ in the highest undecided atom the one that lacks it is below
completion_below : {s : State} {M N k : ℕ} → Highest (undecided s.up s.dropped) k → M < 2 ^ ATOMS → N < 2 ^ ATOMS → Completes s M → Completes s N
    → ¬ Has M k → Has N k → M < N
completion_below {s} {M} {N} {k} t m n c d lacks has = go (dec_lt M N)
  where
    free : (i : ℕ) → k + 1 ≤ i → ¬ Has (undecided s.up s.dropped) i
    free i l h = let a = t.most i h in absurd (omega arith)

    alike : high (k + 1) M ≡ high (k + 1) N
    alike =
        high_same (k + 1) M N (λ i l h. completion_has c d (has_lt M ATOMS m h) (free i l) h)
        (λ i l h. completion_has d c (has_lt N ATOMS n h) (free i l) h)

    go : Dec (M < N) → M < N
    go (yes l) = l
    go (no l) = let g : N ≤ M = omega arith in absurd (omega (arith, high_mono k g, high_with has, high_without lacks, alike))

-- who fits a branch completes its state
fits_back : {rules desk memory : List ℕ} {unit : Job} {facts k : ℕ} {from : Option ℕ} {s : State} {phase : Bool} {node : WalkNode}
    → Descended rules desk memory unit facts from s k phase node → {M : ℕ} (f : Unpiloted rules desk unit facts node.front.state M)
    → Completes (branch_of s k phase) f.whole
fits_back n f = completes_back n.narrows f.wanted.completes

-- an atom that is undecided without pilots is no pilot, and undecided
pub dark_free : (s : State) (X : ℕ) {k : ℕ} → Has (undecided (dark_of s X).up (dark_of s X).dropped) k → ¬ Has X k
dark_free s X h x = undecided_dropped (s.up ∖ X) (s.dropped ∪ X) h (has_right s.dropped X x)

dark_undecided : (s : State) (X : ℕ) {k : ℕ} → Has (undecided (dark_of s X).up (dark_of s X).dropped) k → Has (undecided s.up s.dropped) k
dark_undecided s X {k} h =
    undecided_intro s.up s.dropped k (undecided_lt (s.up ∖ X) (s.dropped ∪ X) h)
    (λ u. undecided_up (s.up ∖ X) (s.dropped ∪ X) h (has_without s.up X u (dark_free s X h)))
    (λ d. undecided_dropped (s.up ∖ X) (s.dropped ∪ X) h (has_left s.dropped X d))

module _ {rules desk : List ℕ} {unit : Job} {facts : ℕ} {from : Option ℕ} {passed : List ℕ} where
  pub gather_full : {s : State} {list : List ℕ} {count : ℕ} → count ≤ length list → length list ≤ count
      → Added (Due rules desk unit facts from passed s) list count list count
  gather_full l k = added_full l k

  pub gather_none : {s : State} {w : Option ℕ} {list : List ℕ} {count : ℕ} → count ≤ length list → w ≡ None → Looked rules desk unit facts from s w
      → Added (Due rules desk unit facts from passed s) list count list count
  gather_none {s} {w} {list} {count} l e k = go (subst (Looked rules desk unit facts from s) e k)
    where
      go : Looked rules desk unit facts from s None → Added (Due rules desk unit facts from passed s) list count list count
      go (unseen n) = added_none l (λ N d. n N d.fits d.sought.behind)

  module _ {memory : List ℕ} {s : State} (y : Standing rules desk memory unit facts s) where
    due_word : {M : ℕ} → Due rules desk unit facts from passed s M → M < 2 ^ ATOMS
    due_word d = (fits_settled y d.fits).word

    pub gather_leaf : {m : ℕ} {before after : List ℕ} {count r : ℕ} → Likely rules desk unit facts from s m
        → undecided (dark_of s (hidden_of unit facts)).up (dark_of s (hidden_of unit facts)).dropped ≡ 0
        → Added (OfferedNext from passed m) before count after r → Added (Due rules desk unit facts from passed s) before count after r
    gather_leaf {m} f z a =
        added_iff (λ M o. record {
          fits = subst (Unpiloted rules desk unit facts s) (sym o.is) (f.fits (subst (Behind from) o.is o.sought.behind));
          sought = o.sought;
        })
        (λ M d. record { is = completion_one z (due_word d) f.word (fits_dark d.fits) f.completes; sought = d.sought }) a

    module _ {memory₁ : List ℕ} {k : ℕ} {low : WalkNode}
        (h : Highest (undecided (dark_of s (hidden_of unit facts)).up (dark_of s (hidden_of unit facts)).dropped) k)
        (d : Descended rules desk memory₁ unit facts from s k false low) where
      due_back : (phase : Bool) {memory : List ℕ} {node : WalkNode} → Descended rules desk memory unit facts from s k phase node → (M : ℕ)
          → Due rules desk unit facts from passed node.front.state M → Due rules desk unit facts from passed s M
      due_back phase n M q = record {
        fits = record {
          whole = q.fits.whole;
          wanted = record { belongs = q.fits.wanted.belongs; completes = without_branch s k phase (fits_back n q.fits) };
          is = q.fits.is;
        };
        sought = q.sought;
      }

      due_after : (phase : Bool) {memory : List ℕ} {node : WalkNode} → Descended rules desk memory unit facts from s k phase node → (M : ℕ)
          → (q : Due rules desk unit facts from passed s M) → Completes (branch_of s k phase) q.fits.whole
          → Due rules desk unit facts from passed node.front.state M
      due_after phase n M q c = record {
        fits = record {
          whole = q.fits.whole;
          wanted = record { belongs = q.fits.wanted.belongs; completes = n.narrows.keeps q.fits.whole q.fits.wanted.belongs c };
          is = q.fits.is;
        };
        sought = q.sought;
      }

      -- all that lack the atom are below all that have it
      low_below : (M N : ℕ) → Due rules desk unit facts from passed low.front.state M → (q : Due rules desk unit facts from passed s N)
          → Completes (branch_of s k true) q.fits.whole → M < N
      low_below M N p q b =
          completion_below h (due_word (due_back false d M p)) (due_word q) (fits_dark (due_back false d M p).fits) (fits_dark q.fits)
          (λ m. (fits_back d p.fits).no_dropped.none k (has_right s.dropped _ (has_atom k))
          (without_left p.fits.whole X (subst (λ (w : ℕ). Has w k) p.fits.is m)))
          (subst (λ (w : ℕ). Has w k) (sym q.fits.is)
          (has_without q.fits.whole X (b.has_up.each k (has_right s.up _ (has_atom k))) (dark_free s X h.here)))
        where
          X : ℕ
          X = hidden_of unit facts

      -- the words are full
      pub gather_low : {list₀ list₁ : List ℕ} {count₀ count₁ : ℕ}
          → Added (Due rules desk unit facts from passed low.front.state) list₀ count₀ list₁ count₁
          → length list₁ ≤ count₁ → Added (Due rules desk unit facts from passed s) list₀ count₀ list₁ count₁
      gather_low a l =
          added_both (due_back false d) (λ M q. q.0) split (λ M N p q. low_below M N p q.0 q.1) a
          (added_full (omega (arith, a.room, a.long)) l)
        where
          split : (M : ℕ) → Due rules desk unit facts from passed s M
              → Due rules desk unit facts from passed low.front.state M
              ⊎ ((q : Due rules desk unit facts from passed s M) × Completes (branch_of s k true) q.fits.whole)
          split M q = go (some_branch s k false q.fits.wanted.completes)
            where
              go : Completes (branch_of s k false) q.fits.whole ⊎ Completes (branch_of s k true) q.fits.whole
                  → Due rules desk unit facts from passed low.front.state M
                  ⊎ ((p : Due rules desk unit facts from passed s M) × Completes (branch_of s k true) p.fits.whole)
              go (inl c) = inl (due_after false d M q c)
              go (inr c) = inr (q, c)

      module _ {memory₂ : List ℕ} {up : WalkNode} (u : Descended rules desk memory₂ unit facts from s k true up) where
        due_split : (M : ℕ) → Due rules desk unit facts from passed s M
            → Due rules desk unit facts from passed low.front.state M ⊎ Due rules desk unit facts from passed up.front.state M
        due_split M q = go (some_branch s k false q.fits.wanted.completes)
          where
            go : Completes (branch_of s k false) q.fits.whole ⊎ Completes (branch_of s k true) q.fits.whole
                → Due rules desk unit facts from passed low.front.state M ⊎ Due rules desk unit facts from passed up.front.state M
            go (inl c) = inl (due_after false d M q c)
            go (inr c) = inr (due_after true u M q c)

        pub gather_both : {list₀ list₁ list₂ : List ℕ} {count₀ count₁ count₂ : ℕ}
            → Added (Due rules desk unit facts from passed low.front.state) list₀ count₀ list₁ count₁
            → Added (Due rules desk unit facts from passed up.front.state) list₁ count₁ list₂ count₂
            → Added (Due rules desk unit facts from passed s) list₀ count₀ list₂ count₂
        unfolding due_back
        gather_both a b =
            added_both (due_back false d) (due_back true u) due_split (λ M N p q. low_below M N p (due_back true u N q) (fits_back u q.fits)) a b

-- the branches have fewer undecided atoms
pub descended_falls : {rules desk memory : List ℕ} {unit : Job} {facts : ℕ} {from : Option ℕ} (s : State) (X : ℕ) {k n : ℕ} {node : WalkNode} (phase : Bool)
    → Highest (undecided (dark_of s X).up (dark_of s X).dropped) k → Descended rules desk memory unit facts from s k phase node
    → ones (undecided s.up s.dropped) ≡ n → ones (undecided node.front.state.up node.front.state.dropped) < n
descended_falls s X phase h d e = rw e at (decided_falls s phase (dark_undecided s X h.here) refl d.narrows)

-- at the root all answer sets are left
pub gather_root : (rules : List ℕ) {desk memory : List ℕ} {unit : Job} {which facts : ℕ} {from : Option ℕ} {passed : List ℕ} {root : State}
    {before after : List ℕ} {r : ℕ} → ((i : ℕ) → get_or rules i 0 < 2 ^ ATOMS) → facts < 2 ^ ATOMS → which < 2 ^ ATOMS → unit ≡ unit_of desk which facts
    → Standing rules desk memory unit facts root → Rooted rules desk unit facts root
    → Added (Due rules desk unit facts from passed root) before 0 after r
    → Added (λ M. AnswerSet (lent rules) which facts M × Sought from passed M) before 0 after r
gather_root rules g f h e y t a =
    added_iff (λ M d. (fits_answers y e h d.fits, d.sought)) (λ M q. record { fits = answers_fit g f h e t q.0; sought = q.1 }) a
