-- The cases of the calculus with all that is said of a node: its pair, its memory, and the list. `explore` and `seek` go by these cases.
use Rattle.searching.proofs.Prelude.{◌≡◌, refl, sym, ◌∙◌, subst, Bool, true, false, not, ◌⊎◌, inl, inr, List, [], ◌∷◌, ◌++◌, List-as-Memᴰ}
use Rattle.searching.proofs.Prelude.{Memᴰ-head, Memᴰ-not-nil, Memᴰ-append_cases, Memᴰ-eq_of_singleton, Memᴰ-append_left}
use Rattle.searching.proofs.Prelude.{Memᴰ-append_right, ℕ, ◌<◌, ◌≤◌, ◌^◌, arith, ATOMS, Has, Apart, ◌∩◌, CutOf, empty, cut_right, has_none, cut_for}
use Rattle.searching.proofs.Prelude.{LIST_WORDS, undecided, Overlaps, Narrows, Within, Wanted, branch_of, State, overlap_none, AnswersInputs, NoStop}
use Rattle.searching.proofs.Prelude.{stop_answers_none, Nogood, Resolves, Remembers, nogood_resolved, lifted_nogood, lifted_remembers}
use Rattle.searching.proofs.Prelude.{FilteredIn, WiredIn, Context, Ordered, Gathered, fits, over, Grown, Offered, Witnessed, met, none, Met, option_or, Shows}
use Rattle.searching.proofs.Prelude.{one, nobody, Searched, narrowed, stop, leaf, done, full, skip, both, Done, too_many, enough, HandedUp, SoughtOf}
use Rattle.searching.proofs.Prelude.{Explored, Entered, ModelJob, Found, Option, Some, None}
use Rattle.answer_sets.specs.Memo.{Memo}
use Rattle.propagating.specs.declared.front.Front.{Front}
use Rattle.searching.specs.Outlook.{SomeStop, Leaves}
use Rattle.searching.specs.declared.node.Branch.{Branch}
use Rattle.searching.specs.declared.node.Node.{Node}
use Rattle.searching.specs.declared.outlook.Outlook.{Outlook}
use Rattle.searching.specs.declared.outlook.Outlook.TheVariants.{Stop, Leaf, Open}
use Rattle.searching.proofs.Gathered.{gathered_iff, gathered_over, gathered_same, gathered_then}
use Rattle.searching.proofs.Witnesses.{grown_for}
use Rattle.searching.proofs.Calculus.{only_up, met_wanted, gathers, witnesses}

-- ---- the witness

shows_met : {ms : List ℕ} {w : Option ℕ} → (m : Met w) → Shows ms w → List-as-Memᴰ m.member ms
shows_met {ms} m x = go (subst (Shows ms) m.is x)
  where
    go : {M : ℕ} → Shows ms (Some M) → List-as-Memᴰ M ms
    go (one k) = k

shows_both : {ms ns : List ℕ} {u v : Option ℕ} → Shows ms u → Shows ns v → Shows (ms ++ ns) (option_or u v)
shows_both {ns = ns} (one m) y = one (Memᴰ-append_left ns m)
shows_both {ms} (nobody e) (one m) = one (Memᴰ-append_right ms m)
shows_both (nobody e) (nobody f) = nobody (rw (e, f) refl)

-- ---- all but the list

module _ {K : ℕ → Type 0} where
  -- at a stop nothing is wanted
  pub nothing_wanted : {rules : List ℕ} {which inputs : ℕ} {t : State} → ((M : ℕ) → K M → AnswersInputs rules which inputs M)
      → Overlaps t ⊎ SomeStop rules which t → (M : ℕ) → ¬ Wanted K t M
  nothing_wanted f (inl h) M w = overlap_none h w.completes
  nothing_wanted {rules} {which} {inputs} f (inr k) M w =
      stop_answers_none rules which inputs k.rule k.in_word k.at_stop M w.completes (f M w.belongs)

  module _ {shown : ℕ} {s : State} {whole : Bool} {memory : List ℕ} {r : Found} where
    pub sought_narrowed : {t : State} → Narrows K s t → SoughtOf K shown t whole memory r → SoughtOf K shown s whole memory r
    sought_narrowed n x =
        record { met = x.met; searched = narrowed n x.searched; shows = x.shows; remembers = x.remembers; nogood = x.nogood }

    -- the pair is lifted, and the rest is as it was found
    pub sought_handed : {before : List ℕ} {found : Found} → HandedUp K found before memory r → SoughtOf K shown s whole before found
        → SoughtOf K shown s whole memory r
    sought_handed h x = record {
      met = x.met;
      searched = x.searched;
      shows = rw h.same_witness x.shows;
      remembers = lifted_remembers x.remembers h.lifted x.nogood;
      nogood = lifted_nogood x.remembers h.lifted x.nogood;
    }

  pub sought_stop : {shown count : ℕ} {t n : State} {memory : List ℕ} {r : Found} → ((M : ℕ) → ¬ Wanted K t M)
      → r ≡ record { count = count; nogood = n; witness = None } → Remembers K memory → Nogood K n → SoughtOf K shown t true memory r
  sought_stop f e m n = rw e (record { met = []; searched = stop f; shows = nobody refl; remembers = m; nogood = n })

  -- at a leaf the one position was met, if it has K
  module _ (shown : ℕ) {t : State} (word : (M : ℕ) → K M → M < 2 ^ ATOMS) (l : Apart t.up t.dropped × (undecided t.up t.dropped ≡ 0)) where
    record LeafMet (w : Option ℕ) : Type 0 where
      ms : List ℕ
      searched : Searched K shown t true ms
      shows : Shows ms w
      into : (M : ℕ) → Offered K t.up M → List-as-Memᴰ M ms
      from : (M : ℕ) → List-as-Memᴰ M ms → Offered K t.up M

    leaf_met : {w : Option ℕ} → Witnessed (Offered K t.up) w → LeafMet w
    leaf_met (met {M} o) = record {
      ms = t.up ∷ [];
      searched = leaf l (subst K o.is o.belongs);
      shows = one (Memᴰ-head o.is);
      into = λ N p. Memᴰ-head p.is;
      from = λ N m. record { is = Memᴰ-eq_of_singleton m; belongs = subst K (o.is ∙ sym (Memᴰ-eq_of_singleton m)) o.belongs };
    }
    leaf_met (none n) = record {
      ms = [];
      searched = stop (λ M w. n M (record { is = only_up l (word M w.belongs) w.completes; belongs = w.belongs }));
      shows = nobody refl;
      into = λ N p. absurd (n N p);
      from = λ N m. absurd (Memᴰ-not-nil m);
    }

    pub sought_leaf : {memory : List ℕ} {r : Found} → Witnessed (Offered K t.up) r.witness → Remembers K memory → Nogood K r.nogood
        → SoughtOf K shown t true memory r
    sought_leaf w m n = let k = leaf_met w in record { met = k.ms; searched = k.searched; shows = k.shows; remembers = m; nogood = n }

  branched : {shown : ℕ} {s t : State} {whole : Bool} {memory : List ℕ} {r : Found} (x : SoughtOf K shown s whole memory r) → s ≡ t
      → Searched K shown t whole x.met
  branched {shown} {whole = whole} x e = subst (λ (u : State). Searched K shown u whole x.met) e x.searched

  -- an atom is decided in its phase, and what that finds may be enough
  module _ (i : ℕ) (phase : Bool) {shown : ℕ} {t one : State} {whole : Bool} {memory₁ : List ℕ} {first : Found} (e : one ≡ branch_of t i phase)
      (x : SoughtOf K shown one whole memory₁ first) where
    pub sought_done : undecided t.up t.dropped ∩ shown ≡ 0 → Met first.witness → SoughtOf K shown t true memory₁ first
    sought_done z m = record {
      met = x.met;
      searched = done i phase z (shows_met m x.shows) (branched x e);
      shows = x.shows;
      remembers = x.remembers;
      nogood = x.nogood;
    }

    -- where nothing shows, one that was met is enough
    pub sought_met : shown ≡ 0 → Met first.witness → SoughtOf K shown t true memory₁ first
    sought_met z m =
        sought_done (rw z (empty (undecided t.up t.dropped ∩ 0) (λ j h. has_none (cut_right (undecided t.up t.dropped) 0 h)))) m

    pub sought_full : SoughtOf K shown t false memory₁ first
    sought_full = record { met = x.met; searched = full i phase (branched x e); shows = x.shows; remembers = x.remembers; nogood = x.nogood }

    pub sought_skip : Within first.nogood t → SoughtOf K shown t whole memory₁ first
    sought_skip k = record {
      met = x.met;
      searched = skip i phase x.nogood k (branched x e);
      shows = x.shows;
      remembers = x.remembers;
      nogood = x.nogood;
    }

  -- else it is decided the other way too
  pub sought_both : (i : ℕ) (phase : Bool) {shown : ℕ} {t one other : State} {part whole : Bool} {memory₁ memory₂ : List ℕ} {first second found : Found}
      → one ≡ branch_of t i phase → SoughtOf K shown one part memory₁ first → part ≡ true → other ≡ branch_of t i (not phase)
      → SoughtOf K shown other whole memory₂ second
      → found ≡ record { count = second.count; nogood = found.nogood; witness = option_or first.witness second.witness }
      → Resolves second.nogood first.nogood found.nogood → SoughtOf K shown t whole memory₂ found
  sought_both i phase {shown} {t} e x z f y is n = record {
    met = x.met ++ y.met;
    searched = both i phase (subst (λ (b : Bool). Searched K shown (branch_of t i phase) b x.met) z (branched x e)) (branched y f);
    shows = subst (λ (r : Found). Shows (x.met ++ y.met) r.witness) (sym is) (shows_both x.shows y.shows);
    remembers = y.remembers;
    nogood = nogood_resolved n y.nogood x.nogood;
  }

-- ---- and the list

-- what was met is what is wanted, as far as it shows
module _ {K : ℕ → Type 0} (word : (M : ℕ) → K M → M < 2 ^ ATOMS) {shown : ℕ} {s : State} {list : List ℕ} {count : ℕ} {after memory : List ℕ} {r : Found}
    (x : Explored K shown s list count after memory r) where
  pub explored_gathered : Gathered (Grown list count (CutOf shown (Wanted K s))) after r.count
  explored_gathered = go x.room x.gathered
    where
      into : (y : ℕ) → Grown list count (CutOf shown (λ M. List-as-Memᴰ M x.sought.met)) y → Grown list count (CutOf shown (Wanted K s)) y
      into = grown_for list count (λ y c. cut_for (met_wanted x.sought.searched) c)

      go : {n : ℕ} → (n ≤ LIST_WORDS → x.whole ≡ true) → Gathered (Grown list count (CutOf shown (λ M. List-as-Memᴰ M x.sought.met))) after n
          → Gathered (Grown list count (CutOf shown (Wanted K s))) after n
      go f (fits o a b) = gathered_iff into (grown_for list count (gathers word x.sought.searched (f o.small))) (fits o a b)
      go f (over o a) = gathered_over into (omega arith) (over o a)

  pub explored_witnessed : r.count ≤ LIST_WORDS → Witnessed (Wanted K s) r.witness
  explored_witnessed l = witnesses word x.sought.searched (x.room l) x.sought.shows

module _ {K : ℕ → Type 0} where
  pub explored_narrowed : {shown : ℕ} {s t : State} {list : List ℕ} {count : ℕ} {after memory : List ℕ} {r : Found} → Narrows K s t
      → Explored K shown t list count after memory r → Explored K shown s list count after memory r
  unfolding sought_narrowed
  explored_narrowed n x = record { whole = x.whole; sought = sought_narrowed n x.sought; room = x.room; gathered = x.gathered }

  pub explored_stop : {rules list memory : List ℕ} {which inputs count shown : ℕ} {t n : State} {r : Found}
      → ((M : ℕ) → K M → AnswersInputs rules which inputs M) → Ordered list count → Overlaps t ⊎ SomeStop rules which t
      → r ≡ record { count = count; nogood = n; witness = None } → Remembers K memory
      → Nogood K n → Explored K shown t list count list memory r
  unfolding sought_stop
  explored_stop {list = list} {count = count} {shown = shown} f o k e m n = rw e (record {
    whole = true;
    sought = sought_stop (nothing_wanted f k) refl m n;
    room = λ l. refl;
    gathered = gathered_same list count (CutOf shown (λ M. List-as-Memᴰ M [])) o (λ x c. Memᴰ-not-nil c.wanted);
  })

  pub explored_leaf : {shown : ℕ} {t : State} {list : List ℕ} {count : ℕ} {after memory : List ℕ} {r : Found} → ((M : ℕ) → K M → M < 2 ^ ATOMS)
      → Apart t.up t.dropped × (undecided t.up t.dropped ≡ 0) → Gathered (Grown list count (CutOf shown (Offered K t.up))) after r.count
      → Witnessed (Offered K t.up) r.witness → Remembers K memory → Nogood K r.nogood → Explored K shown t list count after memory r
  unfolding sought_leaf
  explored_leaf {shown} {list = list} {count} word l g w m n = record {
    whole = true;
    sought = sought_leaf shown word l w m n;
    room = λ z. refl;
    gathered = gathered_iff (grown_for list count (λ x c. cut_for (leaf_met shown word l w).into c))
        (grown_for list count (λ x c. cut_for (leaf_met shown word l w).from c)) g;
  }

  module _ (i : ℕ) (phase : Bool) {shown : ℕ} {t one : State} {list₀ : List ℕ} {count₀ : ℕ} {list₁ memory₁ : List ℕ} {first : Found}
      (e : one ≡ branch_of t i phase) (x : Explored K shown one list₀ count₀ list₁ memory₁ first) where
    pub explored_done : {left : ℕ} → left ≡ undecided t.up t.dropped ∩ shown → Done first left → Explored K shown t list₀ count₀ list₁ memory₁ first
    unfolding sought_done sought_full
    explored_done o (too_many l) =
        record { whole = false; sought = sought_full i phase e x.sought; room = λ m. absurd (omega arith); gathered = x.gathered }
    explored_done o (enough l z m) =
        record { whole = true; sought = sought_done i phase e x.sought (sym o ∙ z) m; room = λ k. refl; gathered = x.gathered }

    pub explored_skip : {memory : List ℕ} {r : Found} → Within first.nogood t → HandedUp K first memory₁ memory r
        → Explored K shown t list₀ count₀ list₁ memory r
    unfolding sought_skip sought_handed
    explored_skip k h = record {
      whole = x.whole;
      sought = sought_handed h (sought_skip i phase e x.sought k);
      room = rw h.same_count x.room;
      gathered = rw h.same_count x.gathered;
    }

    pub explored_both : {other : State} {list₂ memory₂ memory : List ℕ} {second found r : Found} → first.count ≤ LIST_WORDS → other ≡ branch_of t i (not phase)
        → Explored K shown other list₁ first.count list₂ memory₂ second
        → found ≡ record { count = second.count; nogood = found.nogood; witness = option_or first.witness second.witness }
        → Resolves second.nogood first.nogood found.nogood → HandedUp K found memory₂ memory r → Explored K shown t list₀ count₀ list₂ memory r
    unfolding sought_both sought_handed
    explored_both {list₂ = list₂} {second = second} {r = r} l f y is n h = record {
      whole = y.whole;
      sought = sought_handed h (sought_both i phase e x.sought (x.room l) f y.sought is n);
      room = subst (λ (c : ℕ). c ≤ LIST_WORDS → y.whole ≡ true) (sym same) y.room;
      gathered = subst (Gathered (Grown list₀ count₀ (CutOf shown (λ M. List-as-Memᴰ M (x.sought.met ++ y.sought.met)))) list₂) (sym same)
          (gathered_then list₀ count₀ list₁ first.count (λ z c. cut_for (λ M m. Memᴰ-append_left y.sought.met m) c)
          (λ z c. cut_for (λ M m. Memᴰ-append_right x.sought.met m) c) split l x.gathered y.gathered);
    }
      where
        same : r.count ≡ second.count
        same = h.same_count ∙ ap_count is
          where
            ap_count : {a b : Found} → a ≡ b → a.count ≡ b.count
            ap_count q = rw q refl

        split : (z : ℕ) → CutOf shown (λ M. List-as-Memᴰ M (x.sought.met ++ y.sought.met)) z
            → CutOf shown (λ M. List-as-Memᴰ M x.sought.met) z ⊎ CutOf shown (λ M. List-as-Memᴰ M y.sought.met) z
        split z c = go (Memᴰ-append_cases x.sought.met c.wanted)
          where
            go : List-as-Memᴰ c.whole x.sought.met ⊎ List-as-Memᴰ c.whole y.sought.met
                → CutOf shown (λ M. List-as-Memᴰ M x.sought.met) z ⊎ CutOf shown (λ M. List-as-Memᴰ M y.sought.met) z
            go (inl m) = inl (record { whole = c.whole; wanted = m; is = c.is })
            go (inr m) = inr (record { whole = c.whole; wanted = m; is = c.is })

-- ---- from a node to a node below it

module _ (rules : List ℕ) (which : ℕ) {s : State} {next : Outlook} where
  pub is_stop : next ≡ Stop → Leaves rules which s next → Overlaps s ⊎ SomeStop rules which s
  is_stop e l = rw e at l

  pub is_leaf : next ≡ Leaf → Leaves rules which s next → Apart s.up s.dropped × (undecided s.up s.dropped ≡ 0)
  is_leaf e l = rw e at l

  pub is_open : {i : ℕ} → next ≡ Open i → Leaves rules which s next → Has (undecided s.up s.dropped) i × (i < ATOMS) × NoStop rules which s
  is_open e l = rw e at l

module _ {cx : Context} {shown count : ℕ} {front : Front} {base : State} {branch : Branch} {memory filter : List ℕ} {node : Node}
    (b : branch ≡ record { shown = shown; count = count; front = front; base = base }) (e : Entered cx branch memory filter node) where
  -- the node may be searched
  pub entered_ready : {list memo : List ℕ} → Ordered list count → Memo cx.rules.now memo
      → Ordered list node.count
      × Remembers (WiredIn cx) memory
      × FilteredIn cx node.front.state filter
      × Leaves cx.rules.now cx.unit.rules node.front.state node.next
      × Memo cx.rules.now memo
  entered_ready o m = rw e.same (rw b (o, e.remembers, e.filtered, e.leaves, m))

  -- so with the job of the subset test
  pub entered_job : ModelJob cx.desk.now cx.unit
      → Remembers (WiredIn cx) memory × Leaves cx.rules.now cx.unit.rules node.front.state node.next × ModelJob cx.desk.now cx.unit
  entered_job j = (e.remembers, e.leaves, j)

  pub sought_branch : {show : ℕ} {whole : Bool} {later : List ℕ} {r : Found}
      → SoughtOf (WiredIn cx) show node.front.state whole later r → SoughtOf (WiredIn cx) show front.state whole later r
  sought_branch x = rw b at (sought_narrowed e.narrows x)

  -- what is said of it is said of the branch
  pub explored_branch : {list after later : List ℕ} {r : Found} → Explored (WiredIn cx) node.shown node.front.state list node.count after later r
      → Explored (WiredIn cx) shown front.state list count after later r
  explored_branch x = rw b at (explored_narrowed e.narrows (rw e.same at x))
