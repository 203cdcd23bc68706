-- The filter: a position that joins a list and completes the state is one of the list's agreeing entries, cut to the head atoms, so its bit stays.
use Rattle.joining.proofs.Prelude.{◌≡◌, refl, sym, subst, ap, ap₂, ◌∙◌, Bool, true, false, ◌⊎◌, inl, inr, List, ℕ, ◌+◌, ◌-◌, ◌*◌, ◌/◌, ◌%◌, ◌≤◌, ◌<◌}
use Rattle.joining.proofs.Prelude.{min, arith, ℕ_discrete, eqb, length, get_or, set, length-set, get_or-set_same, get_or-set_other, eqb-true, ATOMS, Has}
use Rattle.joining.proofs.Prelude.{◌⊆◌, subset, ◌∩◌, ◌∪◌, ◌∖◌, atom, below, Lowest, subset_refl, decides_subset, has_cut, cut_left, cut_right}
use Rattle.joining.proofs.Prelude.{has_left, has_right, union_cases, has_without, without_left, without_right, has_atom, atom_only, has_below, ext}
use Rattle.joining.proofs.Prelude.{Taking, taking_start, taking_next, taking_end, some_at, MAX_UNITS, LIST_WORDS, Overlaps, Narrows, clashed, branch_of}
use Rattle.joining.proofs.Prelude.{is_listed, Joinable, BLOCKS, FILTER_WORDS, EntryAgrees, Spans, EntrySifted, BlockSifted, ListSifted, Picked, Refined}
use Rattle.joining.proofs.Prelude.{JoinsAll, Filtered, Full}
use Rattle.states.specs.State.{Completes}
use Rattle.states.specs.declared.state.State.{State}
use Rattle.states.proofs.Narrows.{clash_narrows, completes_back, overlap_none}
use Rattle.joining.specs.declared.sift.Sifted.{Sifted}
use Rattle.joining.proofs.JoinedLists.{joins_one, joined_lt}

-- ---- one entry

pub entry_leaves : (up decided entry i kept : ℕ) (r : Sifted) → ¬ (entry ∩ decided ≡ up) → kept ≡ r.kept ∖ atom i
    → EntrySifted up decided entry i r (record { all = r.all; some = r.some; kept = kept })
entry_leaves up decided entry i kept r n e = record {
  still = λ x s. record { from_all = s.from_all; to_some = s.to_some };
  new = λ a. absurd (n a.same);
  stays = λ a. absurd (n a.same);
  others = λ j d h. rw e (has_without r.kept (atom i) h (λ p. d (sym (atom_only i p))));
}

pub entry_stays : (up decided entry i all some : ℕ) (r : Sifted) → all ≡ r.all ∩ entry → some ≡ r.some ∪ entry
    → EntrySifted up decided entry i r (record { all = all; some = some; kept = r.kept })
entry_stays up decided entry i all some r e f = record {
  still = λ x s. record {
    from_all = record { each = λ j p. s.from_all.each j (cut_left r.all entry (rw e at p)) };
    to_some = record { each = λ j p. rw f (has_left r.some entry (s.to_some.each j p)) };
  };
  new = λ a. record {
    from_all = record { each = λ j p. cut_right r.all entry (rw e at p) };
    to_some = record { each = λ j p. rw f (has_right r.some entry p) };
  };
  stays = λ a h. h;
  others = λ j d h. h;
}

-- ---- the entries of one word

module _ (words : List ℕ) (at bits up decided : ℕ) (before : Sifted) where
  -- entry i is kept and spanned
  pub record Kept (r : Sifted) (i : ℕ) : Type 0 where
    pub kept : EntryAgrees up decided (get_or words (at + i) 0) → Has r.kept i × Spans r (get_or words (at + i) 0)

  -- so it is for each entry that is done; the others are kept as yet
  pub record Sifting (r : Sifted) (rest : ℕ) : Type 0 where
    pub still : (e : ℕ) → Spans before e → Spans r e
    pub done : Taking bits rest (Kept r)
    pub to_come : rest ⊆ r.kept

  pub sifting_start : bits ⊆ before.kept → Sifting before bits
  sifting_start f = record { still = λ e s. s; done = taking_start; to_come = f }

  pub sifting_next : (r r' : Sifted) (rest rest' i : ℕ) → Sifting r rest → Lowest rest i → rest' ≡ rest ∖ atom i
      → EntrySifted up decided (get_or words (at + i) 0) i r r' → Sifting r' rest'
  sifting_next r r' rest rest' i s low e n = record {
    still = λ x p. n.still x (s.still x p);
    done = taking_next s.done low e later
        (record { kept = λ a. (n.stays a (s.to_come.each i low.here), n.new a) });
    to_come = record {
      each = λ j h.
          let k = rw e at h in
          n.others j (λ q. without_right rest (atom i) k (rw q (has_atom i))) (s.to_come.each j (without_left rest (atom i) k));
    };
  }
    where
      later : (j : ℕ) → Kept r j → Kept r' j
      later j k = record { kept = λ a. let b = k.kept a in (go (ℕ_discrete j i) a b, n.still (get_or words (at + j) 0) b.1) }
        where
          go : Dec (j ≡ i) → (a : EntryAgrees up decided (get_or words (at + j) 0)) → Has r.kept j × Spans r (get_or words (at + j) 0) → Has r'.kept j
          go (no d) a b = n.others j d b.0
          go (yes q) a b =
              rw q (n.stays (subst (λ (x : ℕ). EntryAgrees up decided (get_or words (at + x) 0)) q a) (rw q at b.0))

  pub sifting_end : (r : Sifted) (rest : ℕ) → Sifting r rest → rest ≡ 0 → BlockSifted words at bits up decided before r
  sifting_end r rest s e = record { still = s.still; new = λ i h a. (taking_end s.done e i h).kept a }

-- which bits were kept before does not matter
pub sifted_from : {words : List ℕ} {at bits up decided kept : ℕ} (before : Sifted) {r : Sifted}
    → BlockSifted words at bits up decided (record { all = before.all; some = before.some; kept = kept }) r
    → BlockSifted words at bits up decided before r
sifted_from before b = record {
  still = λ e s. b.still e (record { from_all = s.from_all; to_some = s.to_some });
  new = b.new;
}

-- ---- the words of one list

module _ (words : List ℕ) (base up decided at : ℕ) (before : List ℕ) where
  -- the first k are done
  pub record Listing (k : ℕ) (after : List ℕ) (r : Sifted) : Type 0 where
    pub within : k ≤ BLOCKS
    pub same_length : length after ≡ length before
    pub others : (j : ℕ) → (at ≤ j → j < at + k → ⊥) → get_or after j 0 ≡ get_or before j 0
    pub new : (l i : ℕ) → l < k → Has (get_or before (at + l) 0) i → EntryAgrees up decided (get_or words (base + ATOMS * l + i) 0)
        → Has (get_or after (at + l) 0) i × Spans r (get_or words (base + ATOMS * l + i) 0)

  pub listing_start : (r : Sifted) → Listing 0 before r
  listing_start r = record { within = omega arith; same_length = refl; others = λ j n. refl; new = λ l i m. absurd (omega arith) }

  pub listing_next : (k : ℕ) (after : List ℕ) (r r' : Sifted) → k < BLOCKS → at + k < length before → Listing k after r
      → BlockSifted words (base + ATOMS * k) (get_or after (at + k) 0) up decided r r' → Listing (k + 1) (set after (at + k) r'.kept) r'
  listing_next k after r r' m inside s b = record {
    within = omega arith;
    same_length = length-set after (at + k) r'.kept ∙ s.same_length;
    others = λ j n.
        get_or-set_other after (at + k) j r'.kept 0 (λ q. n (omega arith) (omega arith)) ∙ s.others j (λ p q. n p (omega arith));
    new = λ l i n h a. go l i n h a (ℕ_discrete l k);
  }
    where
      go : (l i : ℕ) → l < k + 1 → Has (get_or before (at + l) 0) i → EntryAgrees up decided (get_or words (base + ATOMS * l + i) 0) → Dec (l ≡ k)
          → Has (get_or (set after (at + k) r'.kept) (at + l) 0) i × Spans r' (get_or words (base + ATOMS * l + i) 0)
      go l i n h a (yes q) =
          let here = s.others (at + k) (λ p t. absurd (omega arith)) in
          let found = b.new i (rw (here, sym q) h) (subst (λ (x : ℕ). EntryAgrees up decided (get_or words (base + ATOMS * x + i) 0)) q a) in
          (rw (q, get_or-set_same after (at + k) r'.kept 0 (omega (arith, s.same_length))) found.0, rw q found.1)
      go l i n h a (no d) =
          let old = s.new l i (omega arith) h a in
          (rw (get_or-set_other after (at + k) (at + l) r'.kept 0 (λ q. d (omega arith))) old.0, b.still (get_or words (base + ATOMS * l + i) 0) old.1)

  pub listing_end : (k : ℕ) (after : List ℕ) (r : Sifted) → Listing k after r → BLOCKS ≤ k
      → ListSifted words base up decided at before after r
  listing_end k after r s n = record {
    same_length = s.same_length;
    others = λ j p. s.others j (λ a b. p a (omega (arith, s.within)));
    new = λ l i m. s.new l i (omega (arith, s.within));
  }

-- ---- the step of one list

module _ (words : List ℕ) (base heads at up decided : ℕ) (s : State) (before after : List ℕ) (r : Sifted) (up_is : up ≡ s.up ∩ heads)
    (decided-is : decided ≡ up ∪ s.dropped) (sifted : ListSifted words base up decided at before after r) where
  -- the position's own entry agrees
  own_agrees : (M : ℕ) → Completes s M → EntryAgrees up decided (M ∩ heads)
  own_agrees M c = rw (decided-is, up_is) (record { same = same })
    where
      only_up : (i : ℕ) → Has M i → Has (s.up ∩ heads) i ⊎ Has s.dropped i → Has (s.up ∩ heads) i
      only_up i m (inl p) = p
      only_up i m (inr p) = absurd (c.no_dropped.none i p m)

      same : M ∩ heads ∩ (s.up ∩ heads ∪ s.dropped) ≡ s.up ∩ heads
      same =
          ext (M ∩ heads ∩ (s.up ∩ heads ∪ s.dropped)) (s.up ∩ heads)
          (λ i p.
          only_up i (cut_left M heads (cut_left (M ∩ heads) (s.up ∩ heads ∪ s.dropped) p))
          (union_cases (s.up ∩ heads) s.dropped (cut_right (M ∩ heads) (s.up ∩ heads ∪ s.dropped) p)))
          (λ i p.
          has_cut (M ∩ heads) (s.up ∩ heads ∪ s.dropped)
          (has_cut M heads (c.has_up.each i (cut_left s.up heads p)) (cut_right s.up heads p))
          (has_left (s.up ∩ heads) s.dropped p))

  -- so that its bit stays and it is spanned
  own_found : (M : ℕ) → (p : Picked words base heads before at M) → Completes s M
      → Has (get_or after (at + p.block) 0) p.entry × Spans r (get_or words (base + ATOMS * p.block + p.entry) 0)
  own_found M p c = sifted.new p.block p.entry p.few p.is_set (rw p.is (own_agrees M c))

  own_spanned : (M : ℕ) → Picked words base heads before at M → Completes s M → Spans r (M ∩ heads)
  own_spanned M p c = rw p.is at (own_found M p c).1

  pub list_refined : Refined words base heads at s before after
  list_refined = record {
    same_length = sifted.same_length;
    others = sifted.others;
    own = λ M p c. record { block = p.block; entry = p.entry; few = p.few; is = p.is; is_set = (own_found M p c).0 };
  }

  pub list_clash : subset r.all heads ≡ false → Narrows (Picked words base heads before at) s (clashed s)
  list_clash e =
      clash_narrows s
      (λ M j c.
      (decides_subset r.all heads).no e
      (record { each = λ i p. cut_right M heads ((own_spanned M j c).from_all.each i p) }))

  pub list_narrows : (u w d : ℕ) → u ≡ s.up ∪ r.all → w ≡ heads ∖ r.some → d ≡ s.dropped ∪ w
      → Narrows (Picked words base heads before at) s (record { up = u; dropped = d })
  list_narrows u w d eu ew ed =
      rw (eu, ed, ew)
      (record {
        up_grows = record { each = λ i p. has_left s.up r.all p };
        dropped_grows = record { each = λ i p. has_left s.dropped (heads ∖ r.some) p };
        keeps = λ M j c. record {
          has_up = record { each = λ i p. goes_up M j c i (union_cases s.up r.all p) };
          no_dropped = record { none = λ i p q. stays_down M j c i q (union_cases s.dropped (heads ∖ r.some) p) };
        };
      })
    where
      goes_up : (M : ℕ) → Picked words base heads before at M → Completes s M → (i : ℕ) → Has s.up i ⊎ Has r.all i → Has M i
      goes_up M j c i (inl p) = c.has_up.each i p
      goes_up M j c i (inr p) = cut_left M heads ((own_spanned M j c).from_all.each i p)

      stays_down : (M : ℕ) → Picked words base heads before at M → Completes s M → (i : ℕ) → Has M i
          → Has s.dropped i ⊎ Has (heads ∖ r.some) i → ⊥
      stays_down M j c i q (inl p) = c.no_dropped.none i p q
      stays_down M j c i q (inr p) =
          without_right heads r.some p
          ((own_spanned M j c).to_some.each i (has_cut M heads q (without_left heads r.some p)))

-- ---- all lists

module _ {table counts heads : List ℕ} {near : ℕ} where
  -- the larger the state the fewer its completions
  pub filtered_more : {s t : State} {filter : List ℕ} → ((M : ℕ) → Completes t M → Completes s M) → Filtered table counts heads near s filter
      → Filtered table counts heads near t filter
  filtered_more f p = record { long = p.long; each = λ M j c. p.each M j (f M c) }

  pub filtered_narrows : {K : ℕ → Type 0} {s t : State} {filter : List ℕ} → Narrows K s t → Filtered table counts heads near s filter
      → Filtered table counts heads near t filter
  filtered_narrows n p = filtered_more (λ M c. completes_back n c) p

  -- so where more atoms are dropped, or up
  pub filtered_lower : (t : State) (x : ℕ) {d : ℕ} {filter : List ℕ} → d ≡ t.dropped ∪ x → Filtered table counts heads near t filter
      → Filtered table counts heads near (record { up = t.up; dropped = d }) filter
  filtered_lower t x e p =
      filtered_more
      (λ M c. record {
        has_up = c.has_up;
        no_dropped = record { none = λ i h. c.no_dropped.none i (rw e (has_left t.dropped x h)) };
      }) p

  pub filtered_upper : (t : State) (x : ℕ) {u : ℕ} {filter : List ℕ} → u ≡ t.up ∪ x → Filtered table counts heads near t filter
      → Filtered table counts heads near (record { up = u; dropped = t.dropped }) filter
  filtered_upper t x e p =
      filtered_more
      (λ M c. record {
        has_up = record { each = λ i h. c.has_up.each i (rw e (has_left t.up x h)) };
        no_dropped = c.no_dropped;
      }) p

  -- one list's step
  module _ {s t : State} {before after : List ℕ} {v : ℕ} (here : Has near v) (p : Filtered table counts heads near s before)
      (n : Narrows (Picked table (LIST_WORDS * v) (get_or heads v 0) before (BLOCKS * v)) s t)
      (r : Refined table (LIST_WORDS * v) (get_or heads v 0) (BLOCKS * v) s before after) where
    pub step_narrows : Narrows (JoinsAll table counts heads near) s t
    step_narrows = record {
      up_grows = n.up_grows;
      dropped_grows = n.dropped_grows;
      keeps = λ M j c. n.keeps M (p.each M j c v here) c;
    }

    pub step_filtered : Filtered table counts heads near t after
    step_filtered = record { long = r.same_length ∙ p.long; each = λ M j c u h. go M j (completes_back n c) u h (ℕ_discrete u v) }
      where
        go : (M : ℕ) → JoinsAll table counts heads near M → Completes s M → (u : ℕ) → Has near u → Dec (u ≡ v)
            → Picked table (LIST_WORDS * u) (get_or heads u 0) after (BLOCKS * u) M
        go M j c u h (yes q) = rw q (r.own M (p.each M j c v here) c)
        go M j c u h (no d) =
            let k = p.each M j c u h in
            record {
              block = k.block;
              entry = k.entry;
              few = k.few;
              is = k.is;
              is_set = rw (r.others (BLOCKS * u + k.block) (λ a b. d (omega (arith, k.few)))) k.is_set;
            }

-- the filter of all entries has each position's own
pub full_filtered : (table counts heads : List ℕ) (near : ℕ) (s : State) (filter : List ℕ) → Joinable table counts heads near
    → Full counts filter → Filtered table counts heads near s filter
unfolding is_listed
full_filtered table counts heads near s filter joinable full = record { long = full.long; each = λ M j c v h. own M v h (joined_lt joinable subset_refl h) j }
  where
    own : (M v : ℕ) → Has near v → v < MAX_UNITS → JoinsAll table counts heads near M
        → Picked table (LIST_WORDS * v) (get_or heads v 0) filter (BLOCKS * v) M
    own M v h l j =
        let one = joins_one table counts heads near M v l h j in
        let found = some_at (get_or counts v 0) (λ i. eqb (get_or table (LIST_WORDS * v + i) 0) (M ∩ get_or heads v 0)) one in
        let i = found.0 in
        let few : i / ATOMS < BLOCKS = omega (arith, found.1, joinable.small v l) in
        let whole : LIST_WORDS * v + ATOMS * (i / ATOMS) + i % ATOMS ≡ LIST_WORDS * v + i = omega arith in
        record {
          block = i / ATOMS;
          entry = i % ATOMS;
          few = few;
          is = ap (λ (k : ℕ). get_or table k 0) whole ∙ eqb-true (get_or table (LIST_WORDS * v + i) 0) (M ∩ get_or heads v 0) found.2;
          is_set = rw (full.each v (i / ATOMS) l few) (has_below (min ATOMS (get_or counts v 0 - ATOMS * (i / ATOMS))) (i % ATOMS) (omega (arith, found.1)));
        }

-- the first i words of the filter of all entries
pub record Filling (counts filter : List ℕ) (i : ℕ) : Type 0 where
  pub within : i ≤ FILTER_WORDS
  pub long : length filter ≡ FILTER_WORDS
  pub done : (j : ℕ) → j < i → get_or filter j 0 ≡ below (min ATOMS (get_or counts (j / BLOCKS) 0 - ATOMS * (j % BLOCKS)))

pub filling_next : (counts filter : List ℕ) (i w : ℕ) → Filling counts filter i → i < FILTER_WORDS
    → w ≡ below (min ATOMS (get_or counts (i / BLOCKS) 0 - ATOMS * (i % BLOCKS))) → Filling counts (set filter i w) (i + 1)
filling_next counts filter i w f l e = record {
  within = omega arith;
  long = length-set filter i w ∙ f.long;
  done = λ j m. go j m (ℕ_discrete j i);
}
  where
    go : (j : ℕ) → j < i + 1 → Dec (j ≡ i)
        → get_or (set filter i w) j 0 ≡ below (min ATOMS (get_or counts (j / BLOCKS) 0 - ATOMS * (j % BLOCKS)))
    go j m (yes q) = rw q (get_or-set_same filter i w 0 (omega (arith, f.long)) ∙ e)
    go j m (no d) = get_or-set_other filter i j w 0 d ∙ f.done j (omega arith)

pub filling_end : (counts filter : List ℕ) (i : ℕ) → Filling counts filter i → FILTER_WORDS ≤ i → Full counts filter
filling_end counts filter i f n = record { long = f.long; each = λ v k l m. at v k l m }
  where
    at : (v k : ℕ) → v < MAX_UNITS → k < BLOCKS → get_or filter (BLOCKS * v + k) 0 ≡ below (min ATOMS (get_or counts v 0 - ATOMS * k))
    at v k l m =
        let d : (BLOCKS * v + k) / BLOCKS ≡ v = omega arith in
        let r : (BLOCKS * v + k) % BLOCKS ≡ k = omega arith in
        f.done (BLOCKS * v + k) (omega (arith, f.within))
        ∙ ap₂ (λ (x y : ℕ). below (min ATOMS (get_or counts x 0 - ATOMS * y))) d r

-- entries that agree with the state agree with one that overlaps, since nothing completes that
pub filtered_overlap : {table counts heads : List ℕ} {near : ℕ} (s : State) {t : State} {filter : List ℕ} → Overlaps t
    → Filtered table counts heads near s filter → Filtered table counts heads near t filter
filtered_overlap s o p = filtered_more {s = s} (λ M c. absurd (overlap_none o c)) p

-- entries that agree with the state agree with its branch
pub filtered_branch : {table counts heads : List ℕ} {near : ℕ} (t : State) {r : State} (i : ℕ) (b : Bool) {filter : List ℕ} → r ≡ branch_of t i b
    → Filtered table counts heads near t filter → Filtered table counts heads near r filter
filtered_branch t i true e p = rw e (filtered_upper t (atom i) refl p)
filtered_branch t i false e p = rw e (filtered_lower t (atom i) refl p)
