-- Positions that are like the place from an atom on: they are the ones behind it up to the last of them, and all others come later.
use Rattle.finding.proofs.Prelude.{◌≡◌, sym, subst, Bool, false, not, ◌⊎◌, inl, inr, List, ℕ, length, ◌^◌, ◌≤◌, ◌<◌, arith, dec_lt, ℕ_discrete}
use Rattle.finding.proofs.Prelude.{pow_pos, not-false, ATOMS, Has, high, ◌∩◌, ◌∪◌, ◌∖◌, outside, below, Decides, has_dec, has_lt}
use Rattle.finding.proofs.Prelude.{has_left, has_right, union_cases, has_cut, cut_left, cut_right, has_without, without_left, without_right, has_below}
use Rattle.finding.proofs.Prelude.{below_lt, has_outside, outside_lt, outside_lacks, subset_le, subset_trans, high_same, high_at, high_mono, Completes}
use Rattle.finding.proofs.Prelude.{undecided, State, Job, Option, Some, hidden_of, Unpiloted, Standing, Behind, from_start, above, Added, Due}
use Rattle.finding.proofs.Prelude.{dark_of, PlaceIn, at_place, known, Node, like_of, high_free, last_like, PlaceAt, Further, BetweenPlaces, Reaches, Option}
use Rattle.finding.proofs.Prelude.{None, Some, WalkNode}
use Rattle.finding.specs.declared.near.Reached.{Reached}
use Rattle.finding.proofs.AddedWords.{added_none, added_iff, added_both}
use Rattle.finding.proofs.Walks.{behind_up, behind_more, above_of}
use Rattle.finding.proofs.Wholes.{fits_settled}
use Rattle.finding.proofs.Trees.{fits_dark, dark_free, completion_has}

-- ---- states that are like a position

module _ (s : State) (H p : ℕ) where
  pub like_completes : {N : ℕ} → Completes s N → ((i : ℕ) → Has H i → Has N i → Has p i) → ((i : ℕ) → Has H i → Has p i → Has N i)
      → Completes (like_of s H p) N
  like_completes {N} c f g = record {
    has_up = record { each = λ i h. up i (union_cases s.up (H ∩ p) h) };
    no_dropped = record { none = λ i h m. down i (union_cases s.dropped (H ∖ p) h) m };
  }
    where
      up : (i : ℕ) → Has s.up i ⊎ Has (H ∩ p) i → Has N i
      up i (inl h) = c.has_up.each i h
      up i (inr h) = g i (cut_left H p h) (cut_right H p h)

      down : (i : ℕ) → Has s.dropped i ⊎ Has (H ∖ p) i → Has N i → ⊥
      down i (inl h) m = c.no_dropped.none i h m
      down i (inr h) m = without_right H p h (f i (without_left H p h) m)

  pub like_back : {N : ℕ} → Completes (like_of s H p) N → Completes s N
  like_back c = record {
    has_up = record { each = λ i h. c.has_up.each i (has_left s.up (H ∩ p) h) };
    no_dropped = record { none = λ i h m. c.no_dropped.none i (has_left s.dropped (H ∖ p) h) m };
  }

  like_in : {N : ℕ} → Completes (like_of s H p) N → (i : ℕ) → Has H i → Has N i → Has p i
  like_in {N} c i h m = go (has_dec p i)
    where
      go : Dec (Has p i) → Has p i
      go (yes y) = y
      go (no n) = absurd (c.no_dropped.none i (has_right s.dropped (H ∖ p) (has_without H p h n)) m)

  like_has : {N : ℕ} → Completes (like_of s H p) N → (i : ℕ) → Has H i → Has p i → Has N i
  like_has c i h y = c.has_up.each i (has_right s.up (H ∩ p) (has_cut H p h y))

outside_word : (w : ℕ) → outside w < 2 ^ ATOMS
unfolding below
outside_word w =
    let k : outside w ≤ below ATOMS = subset_le (record { each = λ i h. has_below ATOMS i (outside_lt w h) }) in omega (arith, pow_pos ATOMS)

-- the greatest completion of a state that has one
last_completes : {s : State} {p : ℕ} → p < 2 ^ ATOMS → Completes s p → Completes s (outside s.dropped)
last_completes {s} {p} l c = record {
  has_up = record {
    each = λ i h. let m = c.has_up.each i h in has_outside s.dropped (has_lt p ATOMS l m) (λ o. c.no_dropped.none i o m);
  };
  no_dropped = record { none = λ i h m. outside_lacks s.dropped m h };
}

last_most : {s : State} {N : ℕ} → N < 2 ^ ATOMS → Completes s N → N ≤ outside s.dropped
last_most {s} {N} l c =
    subset_le (record { each = λ i h. has_outside s.dropped (has_lt N ATOMS l h) (λ o. c.no_dropped.none i o h) })

-- ---- the order

-- D is the state without pilots, F its undecided atoms, and those from b on are as in p
module _ (D : State) (p b : ℕ) (l : p < 2 ^ ATOMS) (c : Completes D p) where
  abbrev F : ℕ
  F = undecided D.up D.dropped

  abbrev H : ℕ
  H = F ∖ below b

  from_bound : (i : ℕ) → b ≤ i → ¬ Has (below b) i
  from_bound i k h = let m = below_lt b h in absurd (omega arith)

  -- completions that are like p there are like it from b on
  same_high : {N : ℕ} → N < 2 ^ ATOMS → Completes (like_of D H p) N → high b N ≡ high b p
  same_high {N} m d = high_same b N p into back
    where
      into : (i : ℕ) → b ≤ i → Has N i → Has p i
      into i k h = go (has_dec F i)
        where
          go : Dec (Has F i) → Has p i
          go (yes f) = like_in D H p d i (has_without F (below b) f (from_bound i k)) h
          go (no f) = completion_has (like_back D H p d) c (has_lt N ATOMS m h) f h

      back : (i : ℕ) → b ≤ i → Has p i → Has N i
      back i k h = go (has_dec F i)
        where
          go : Dec (Has F i) → Has N i
          go (yes f) = like_has D H p d i (has_without F (below b) f (from_bound i k)) h
          go (no f) = completion_has c (like_back D H p d) (has_lt p ATOMS l h) f h

  bound_of : (i : ℕ) → Has H i → b ≤ i
  bound_of i h = go (dec_lt i b)
    where
      go : Dec (i < b) → b ≤ i
      go (yes k) = absurd (without_right F (below b) h (has_below b i k))
      go (no k) = omega arith

  -- the last of them
  abbrev last : ℕ
  last = outside (like_of D H p).dropped

  place_like : Completes (like_of D H p) p
  place_like = like_completes D H p c (λ i h m. m) (λ i h m. m)

  last_high : high b last ≡ high b p
  last_high = same_high (outside_word (like_of D H p).dropped) (last_completes l place_like)

  -- who is above p is like it from b on, or above the last of these
  pub high_or_later : {N : ℕ} → p < N → (high b N ≡ high b p) ⊎ (last < N)
  high_or_later {N} k = go (ℕ_discrete (high b N) (high b p))
    where
      go : Dec (high b N ≡ high b p) → (high b N ≡ high b p) ⊎ (last < N)
      go (yes e) = inl e
      go (no n) = later (dec_lt last N)
        where
          later : Dec (last < N) → (high b N ≡ high b p) ⊎ (last < N)
          later (yes y) = inr y
          later (no y) =
              let g : N ≤ last = omega arith in
              let q : p ≤ N = omega arith in
              absurd (omega (arith, high_mono b g, high_mono b q, last_high, n))

-- ---- what is due near the place

-- undecided atoms without pilots are no pilots
no_pilot : (s : State) (X b i : ℕ) → Has (high_free s X b) i → ¬ Has X i
no_pilot s X b i h = dark_free s X (without_left (undecided (dark_of s X).up (dark_of s X).dropped) (below b) h)

module _ {rules desk : List ℕ} {unit : Job} {facts : ℕ} (s : State) where
  -- who fits the state that is like p fits the state
  fits_back : (H p : ℕ) {M : ℕ} → Unpiloted rules desk unit facts (like_of s H p) M → Unpiloted rules desk unit facts s M
  fits_back H p f = record {
    whole = f.whole;
    wanted = record { belongs = f.wanted.belongs; completes = like_back s H p f.wanted.completes };
    is = f.is;
  }

  module _ (p b : ℕ) {M : ℕ} where
    -- and is like p without pilots
    fits_like : Unpiloted rules desk unit facts (like_of s (high_free s (hidden_of unit facts) b) p) M
        → Completes (like_of (dark_of s (hidden_of unit facts)) (high_free s (hidden_of unit facts) b) p) M
    fits_like f =
        like_completes (dark_of s X) H p (fits_dark (fits_back H p f))
        (λ i h m. like_in s H p f.wanted.completes i h (without_left f.whole X (subst (λ (w : ℕ). Has w i) f.is m)))
        (λ i h y.
        subst (λ (w : ℕ). Has w i) (sym f.is)
        (has_without f.whole X (like_has s H p f.wanted.completes i h y) (no_pilot s X b i h)))
      where
        X : ℕ
        X = hidden_of unit facts

        H : ℕ
        H = high_free s (hidden_of unit facts) b

    like_fits : p < 2 ^ ATOMS → Completes (dark_of s (hidden_of unit facts)) p → high b M ≡ high b p → Unpiloted rules desk unit facts s M
        → Unpiloted rules desk unit facts (like_of s (high_free s (hidden_of unit facts) b) p) M
    like_fits l c e f = record {
      whole = f.whole;
      wanted = record { belongs = f.wanted.belongs; completes = like_completes s H p f.wanted.completes into back };
      is = f.is;
    }
      where
        X : ℕ
        X = hidden_of unit facts

        H : ℕ
        H = high_free s (hidden_of unit facts) b

        into : (i : ℕ) → Has H i → Has f.whole i → Has p i
        into i h m =
            high_at M p e i (bound_of (dark_of s X) p b l c i h)
            (subst (λ (w : ℕ). Has w i) (sym f.is) (has_without f.whole X m (no_pilot s X b i h)))

        back : (i : ℕ) → Has H i → Has p i → Has f.whole i
        back i h y =
            without_left f.whole X (subst (λ (w : ℕ). Has w i) f.is (high_at p M (sym e) i (bound_of (dark_of s X) p b l c i h) y))

  -- all that are like the place are those up to the last of them
  pub near_added : {from : Option ℕ} {passed memory before after : List ℕ} {p count r : ℕ} (b : ℕ) → Standing rules desk memory unit facts s
      → PlaceAt unit facts from s p
      → Added (Due rules desk unit facts from passed (like_of s (high_free s (hidden_of unit facts) b) p)) before count after r
      → Added (BetweenPlaces rules desk unit facts from (Some (last_like s (hidden_of unit facts) (high_free s (hidden_of unit facts) b) p)) passed s)
      before count after r
  near_added {from} {passed} {p = p} b y q a =
      added_iff (λ M d. record {
        due = record { fits = fits_back H p d.fits; sought = d.sought };
        reached = λ o.
            let k = above_of o in
            let m = last_most (fits_settled y (fits_back H p d.fits)).word (fits_like p b d.fits) in
            absurd (omega arith);
      })
      (λ M d. go M d (high_or_later (dark_of s X) p b q.word q.completes (q.low M d.due.sought.behind))) a
    where
      X : ℕ
      X = hidden_of unit facts

      H : ℕ
      H = high_free s (hidden_of unit facts) b

      go : (M : ℕ) → BetweenPlaces rules desk unit facts from (Some (last_like s X H p)) passed s M → (high b M ≡ high b p) ⊎ (last_like s X H p < M)
          → Due rules desk unit facts from passed (like_of s H p) M
      go M d (inl e) = record { fits = like_fits p b q.word q.completes e d.due.fits; sought = d.due.sought }
      go M d (inr k) = absurd (d.reached (above k))

  -- the node of the state that is like the place
  pub near_node : {from : Option ℕ} {memory : List ℕ} {p : ℕ} (b : ℕ) {node : WalkNode} → Standing rules desk memory unit facts s → PlaceAt unit facts from s p
      → node.front.state ≡ like_of s (high_free s (hidden_of unit facts) b) p → node.known ≡ Some p → Node rules desk memory unit facts from node
  near_node {from} {p = p} b {node} y q e k = record {
    stands = rw e (record {
      serves = y.serves;
      remembers = y.remembers;
      facts_up = subset_trans y.facts_up (record { each = λ i h. has_left s.up (H ∩ p) h });
    });
    hinted = rw (e, k) (known (record { word = q.word; completes = here; fits = λ o. let m = q.low p o in absurd (omega arith) }));
  }
    where
      X : ℕ
      X = hidden_of unit facts

      H : ℕ
      H = high_free s (hidden_of unit facts) b

      up : (i : ℕ) → ¬ Has X i → Has s.up i ⊎ Has (H ∩ p) i → Has p i
      up i n (inl h) = q.completes.has_up.each i (has_without s.up X h n)
      up i n (inr h) = cut_right H p h

      dropped : (i : ℕ) → Has s.dropped i ⊎ Has (H ∖ p) i → Has p i → ⊥
      dropped i (inl h) m = q.completes.no_dropped.none i (has_left s.dropped X h) m
      dropped i (inr h) m = without_right H p h m

      down : (i : ℕ) → Has (s.dropped ∪ (H ∖ p)) i ⊎ Has X i → Has p i → ⊥
      down i (inl h) m = dropped i (union_cases s.dropped (H ∖ p) h) m
      down i (inr h) m = q.completes.no_dropped.none i (has_right s.dropped X h) m

      here : Completes (dark_of (like_of s H p) X) p
      here = record {
        has_up = record {
          each = λ i h. up i (without_right (s.up ∪ (H ∩ p)) X h) (union_cases s.up (H ∩ p) (without_left (s.up ∪ (H ∩ p)) X h));
        };
        no_dropped = record { none = λ i h m. down i (union_cases (s.dropped ∪ (H ∖ p)) X h) m };
      }

-- ---- from place to place

pub further_none : {from : Option ℕ} → Further from from
further_none = record { each = λ M b. b }

pub further_more : {from mid to : Option ℕ} → Further from mid → Further mid to → Further from to
further_more f g = record { each = λ M b. f.each M (g.each M b) }

pub further_last : {from : Option ℕ} {m : ℕ} {b : Bool} → Decides (Behind from m) b → not b ≡ false → Further from (Some m)
further_last {b = b} d t = record { each = λ M o. behind_more (d.yes (not-false b t)) (above_of o) }

pub place_further : {unit : Job} {facts p : ℕ} {from to : Option ℕ} {s : State} → Further from to → PlaceAt unit facts from s p → PlaceAt unit facts to s p
place_further f q = record { word = q.word; completes = q.completes; low = λ M b. q.low M (f.each M b) }

-- the place itself
pub place_at_lem : {unit : Job} {facts m : ℕ} {from : Option ℕ} {s t : State} {w : Option ℕ} → t ≡ dark_of s (hidden_of unit facts) → w ≡ Some m
    → PlaceIn t from w → PlaceAt unit facts from s m
place_at_lem {unit} {facts} {m} {from} {s} {t} g k h = go (subst (PlaceIn t from) k h)
  where
    go : PlaceIn t from (Some m) → PlaceAt unit facts from s m
    go (at_place l e c) = record { word = l; completes = rw g at c; low = λ M b. above_of (rw e at b) }

behind_dec : (from : Option ℕ) (M : ℕ) → Dec (Behind from M)
behind_dec None M = yes from_start
behind_dec (Some p) M = go (dec_lt p M)
  where
    go : Dec (p < M) → Dec (Behind (Some p) M)
    go (yes l) = yes (above l)
    go (no n) = no (λ b. n (above_of b))

-- what is reached is below what is behind
reached_low : {mid : Option ℕ} (M N : ℕ) → ¬ Behind mid M → Behind mid N → M < N
reached_low M N n b = go (dec_lt M N)
  where
    go : Dec (M < N) → M < N
    go (yes l) = l
    go (no l) = absurd (n (behind_up (omega arith) b))

module _ {rules desk : List ℕ} {unit : Job} {facts : ℕ} {passed : List ℕ} {s : State} where
  pub between_none : {from : Option ℕ} {list : List ℕ} {count : ℕ} → count ≤ length list
      → Added (BetweenPlaces rules desk unit facts from from passed s) list count list count
  between_none l = added_none l (λ N d. d.reached d.due.sought.behind)

  module _ {from mid : Option ℕ} (f : Further from mid) where
    due_further : (M : ℕ) → Due rules desk unit facts mid passed s M → Due rules desk unit facts from passed s M
    due_further M d = record { fits = d.fits; sought = record { behind = f.each M d.sought.behind; new = d.sought.new } }

    due_on : (M : ℕ) → Due rules desk unit facts from passed s M → Behind mid M → Due rules desk unit facts mid passed s M
    due_on M d b = record { fits = d.fits; sought = record { behind = b; new = d.sought.new } }

    pub between_more : {to : Option ℕ} {list₀ list₁ list₂ : List ℕ} {count₀ count₁ count₂ : ℕ} → Further mid to
        → Added (BetweenPlaces rules desk unit facts from mid passed s) list₀ count₀ list₁ count₁
        → Added (BetweenPlaces rules desk unit facts mid to passed s) list₁ count₁ list₂ count₂
        → Added (BetweenPlaces rules desk unit facts from to passed s) list₀ count₀ list₂ count₂
    between_more {to} g a b =
        added_both (λ M d. record { due = d.due; reached = λ o. d.reached (g.each M o) })
        (λ M d. record { due = due_further M d.due; reached = d.reached }) (λ M d. split M d (behind_dec mid M))
        (λ M N d e. reached_low M N d.reached e.due.sought.behind) a b
      where
        split : (M : ℕ) → BetweenPlaces rules desk unit facts from to passed s M → Dec (Behind mid M)
            → BetweenPlaces rules desk unit facts from mid passed s M ⊎ BetweenPlaces rules desk unit facts mid to passed s M
        split M d (yes o) = inr (record { due = due_on M d.due o; reached = d.reached })
        split M d (no n) = inl (record { due = d.due; reached = n })

    -- and behind the last place all that is left
    pub between_rest : {list₀ list₁ list₂ : List ℕ} {count₀ count₁ count₂ : ℕ}
        → Added (BetweenPlaces rules desk unit facts from mid passed s) list₀ count₀ list₁ count₁
        → Added (Due rules desk unit facts mid passed s) list₁ count₁ list₂ count₂
        → Added (Due rules desk unit facts from passed s) list₀ count₀ list₂ count₂
    between_rest a b =
        added_both (λ M d. d.due) due_further (λ M d. split M d (behind_dec mid M)) (λ M N d e. reached_low M N d.reached e.sought.behind) a b
      where
        split : (M : ℕ) → Due rules desk unit facts from passed s M → Dec (Behind mid M)
            → BetweenPlaces rules desk unit facts from mid passed s M ⊎ Due rules desk unit facts mid passed s M
        split M d (yes o) = inr (due_on M d o)
        split M d (no n) = inl (record { due = d; reached = n })

-- ---- how far it reaches

module _ {rules desk : List ℕ} {unit : Job} {facts : ℕ} {from : Option ℕ} {passed : List ℕ} {s : State} where
  pub reaches_none : {list : List ℕ} {count : ℕ} {r : Reached} → count ≤ length list → r.from ≡ from → r.count ≡ count
      → Reaches rules desk unit facts from passed s list count list r
  reaches_none l e k = record { added = rw (e, k) (between_none l); further = rw e further_none }

  pub reaches_near : {memory before after : List ℕ} {p count c m : ℕ} {t : Bool} (b : ℕ) → Standing rules desk memory unit facts s → PlaceAt unit facts from s p
      → m ≡ last_like s (hidden_of unit facts) (high_free s (hidden_of unit facts) b) p → Decides (Behind from m) t → not t ≡ false
      → Added (Due rules desk unit facts from passed (like_of s (high_free s (hidden_of unit facts) b) p)) before count after c
      → Reaches rules desk unit facts from passed s before count after (record { from = Some m; count = c })
  reaches_near b y q e d t a = record { added = rw e (near_added s b y q a); further = further_last d t }

  pub reaches_more : {list₀ list₁ list₂ : List ℕ} {count : ℕ} {r t : Reached} → Reaches rules desk unit facts from passed s list₀ count list₁ r
      → Reaches rules desk unit facts r.from passed s list₁ r.count list₂ t → Reaches rules desk unit facts from passed s list₀ count list₂ t
  reaches_more a b = record {
    added = between_more a.further b.further a.added b.added;
    further = further_more a.further b.further;
  }
