-- What is known of a body at a half-decided position, part by part.
use Rattle.answer_sets.proofs.Prelude.{◌≡◌, refl, sym, ap, subst, ◌∙◌, Bool, true, ◌↔◌, ◌⊎◌, inl, inr, List, ℕ, ◌<◌, ℕ_discrete, Has, ◌⊆◌, ◌∩◌, Apart}
use Rattle.answer_sets.proofs.Prelude.{◌∪◌, ◌∖◌, atom, below, Lowest, Collects, decided_true, subset_refl, subset_trans, has_dec, has_atom, atom_only}
use Rattle.answer_sets.proofs.Prelude.{has_left, has_right, union_cases, without_left, without_right, has_cut, cut_left, cut_right, has_below}
use Rattle.answer_sets.proofs.Prelude.{below_lt, has_none, has_without, decides_has, table_answer, row, Body, lent, negative, uses, USE_BITS, Completes}
use Rattle.answer_sets.proofs.Prelude.{half_decided, Says, Part, positive_word, negative_word, table_use, PartHolds, PartsSay, BodySays, WordsSay}
use Rattle.answer_sets.proofs.Prelude.{InBody, has_positive, has_negative, has_use, both, WordSays, RowsSay, IsWord, is_positive, is_negative, State}
use Rattle.answer_sets.proofs.Prelude.{Truth, Holds, Fails}
use Rattle.contact_tables.specs.TableRows.{RowReached}
use Rattle.answer_sets.proofs.Truths.{holds_not_fails, both_holds, both_fails}
use Rattle.answer_sets.proofs.Bodies.{body_parts, parts_body}

-- ---- parts together

module _ {rules : List ℕ} {r : ℕ} {s : State} where
  pub parts_one : (p : Part) {t : Truth} → Says (PartHolds rules r p) s t → PartsSay rules r (λ q. p ≡ q) s t
  parts_one p k = record {
    holds = (λ e q g N c. subst (λ (x : Part). PartHolds rules r x N) g (k.holds.0 e N c), λ f. k.holds.1 (f p refl));
    fails = (
      λ e. (p, refl, k.fails.0 e),
      λ f. k.fails.1 (λ N c h. f.2 N c (subst (λ (x : Part). PartHolds rules r x N) f.1 h)),
    );
  }

  -- some parts that fail are enough
  pub parts_fail : {A C : Part → Type 0} → PartsSay rules r A s Fails → ((p : Part) → A p → C p) → PartsSay rules r C s Fails
  parts_fail x left = record {
    holds = (λ e. absurd (holds_not_fails (sym e)), λ f. absurd (holds_not_fails (sym (x.holds.1 (λ p a. f p (left p a))))));
    fails = (λ e. let f = x.fails.0 refl in (f.0, left f.0 f.1, f.2), λ f. refl);
  }

  -- parts of two kinds
  pub parts_both : {A B C : Part → Type 0} {a b t : Truth} → PartsSay rules r A s a → PartsSay rules r B s b
      → ((p : Part) → C p → A p ⊎ B p) → ((p : Part) → A p → C p) → ((p : Part) → B p → C p) → t ≡ both a b → PartsSay rules r C s t
  parts_both {A} {B} {C} {a} {b} {t} x y split left right e = rw e (record {
    holds = (
      λ f p k. holding ((both_holds a b).0 f) p (split p k),
      λ f. (both_holds a b).1 (x.holds.1 (λ p k. f p (left p k)), y.holds.1 (λ p k. f p (right p k))),
    );
    fails = (λ f. failing ((both_fails a b).0 f), λ f. (both_fails a b).1 (failed f.0 f.2 (split f.0 f.1)));
  })
    where
      holding : (a ≡ Holds) × (b ≡ Holds) → (p : Part) → A p ⊎ B p → (N : ℕ) → Completes s N → PartHolds rules r p N
      holding h p (inl k) = x.holds.0 h.0 p k
      holding h p (inr k) = y.holds.0 h.1 p k

      failing : (a ≡ Fails) ⊎ (b ≡ Fails) → (p : Part) × C p × ((N : ℕ) → Completes s N → ¬ PartHolds rules r p N)
      failing (inl h) = let f = x.fails.0 h in (f.0, left f.0 f.1, f.2)
      failing (inr h) = let f = y.fails.0 h in (f.0, right f.0 f.1, f.2)

      failed : (p : Part) → ((N : ℕ) → Completes s N → ¬ PartHolds rules r p N) → A p ⊎ B p → (a ≡ Fails) ⊎ (b ≡ Fails)
      failed p n (inl k) = inl (x.fails.1 (p, k, n))
      failed p n (inr k) = inr (y.fails.1 (p, k, n))

-- ---- the words of a body

-- what is dropped and not up is apart from what is up
pub up_apart : (up dropped : ℕ) {down : ℕ} → down ≡ dropped ∖ up → Apart up down
up_apart up dropped e = rw e (record { none = λ i u d. without_right dropped up d u })

pub apart_sym : {a b : ℕ} → Apart a b → Apart b a
apart_sym n = record { none = λ i p q. n.none i q p }

module _ {up down : ℕ} (free : Apart up down) where
  -- what is up is a completion
  pub up_completes : Completes (record { up = up; dropped = down }) up
  up_completes = record { has_up = subset_refl; no_dropped = apart_sym free }

  -- and so is it with atoms of which none is dropped
  more_completes : (w : ℕ) → Apart w down → Completes (record { up = up; dropped = down }) (up ∪ w)
  more_completes w a = record {
    has_up = record { each = λ i h. has_left up w h };
    no_dropped = record { none = λ i d h. go i d (union_cases up w h) };
  }
    where
      go : (i : ℕ) → Has down i → Has up i ⊎ Has w i → ⊥
      go i d (inl u) = free.none i u d
      go i d (inr k) = a.none i k d

  pub positive_says : {word : ℕ} {t : Truth} → WordSays word up down t → Says (λ N. word ⊆ N) (record { up = up; dropped = down }) t
  positive_says {word} w = record {
    holds = (λ f N c. subset_trans (w.holds.0 f) c.has_up, λ f. w.holds.1 (f up up_completes));
    fails = (
      λ f N c h. w.fails.0 f (record { none = λ i p q. c.no_dropped.none i q (h.each i p) }),
      λ f. w.fails.1 (λ a. f (up ∪ word) (more_completes word a) (record { each = λ i h. has_right up word h })),
    );
  }

  pub negative_says : {word : ℕ} {t : Truth} → WordSays word down up t → Says (λ N. Apart word N) (record { up = up; dropped = down }) t
  negative_says {word} w = record {
    holds = (
      λ f N c. record { none = λ i p q. c.no_dropped.none i ((w.holds.0 f).each i p) q },
      λ f. w.holds.1 (record { each = λ i h. found f i h (has_dec down i) }),
    );
    fails = (
      λ f N c h. w.fails.0 f (record { none = λ i p q. h.none i p (c.has_up.each i q) }),
      λ f. w.fails.1 (f up up_completes),
    );
  }
    where
      found : ((N : ℕ) → Completes (record { up = up; dropped = down }) N → Apart word N) → (i : ℕ) → Has word i → Dec (Has down i) → Has down i
      found f i h (yes p) = p
      found f i h (no n) =
          absurd
          ((f (up ∪ atom i)
          (more_completes (atom i) (record { none = λ j p q. n (subst (λ (x : ℕ). Has down x) (sym (atom_only i p)) q) }))
          ).none i h (has_right up (atom i) (has_atom i)))

  pub words_say : {rules : List ℕ} {r p n : ℕ} {positive negative' t : Truth} → p ≡ (lent rules).positive r → n ≡ negative rules r
      → WordSays p up down positive → WordSays n down up negative' → t ≡ both positive negative' → WordsSay rules r up down t
  words_say e f a b g =
      parts_both (parts_one positive_word (positive_says (rw e at a))) (parts_one negative_word (negative_says (rw f at b))) split old new g
    where
      split : (q : Part) → IsWord q → (positive_word ≡ q) ⊎ (negative_word ≡ q)
      split _ is_positive = inl refl
      split _ is_negative = inr refl

      old : (q : Part) → positive_word ≡ q → IsWord q
      old q e = subst IsWord e is_positive

      new : (q : Part) → negative_word ≡ q → IsWord q
      new q e = subst IsWord e is_negative

module _ (up dropped : ℕ) where
  -- ---- a table

  pub rows_some : {inputs rows : ℕ} → Collects (RowReached inputs up dropped) rows → ¬ (rows ≡ 0)
  rows_some {inputs} c e =
      has_none
      (rw e at
      (c.all (row inputs up)
      (record {
        position = up;
        completes = record { has_up = subset_refl; no_dropped = record { none = λ i d u. without_right dropped up d u } };
        is = refl;
      })))

  pub table_says : {inputs truth rows : ℕ} {t : Truth} → Collects (RowReached inputs up dropped) rows → RowsSay rows truth t
      → Says (λ N. table_answer inputs truth N ≡ true) (half_decided up dropped) t
  unfolding table_answer
  table_says {inputs} {truth} {rows} c k = record {
    holds = (
      λ f N d. decided_true (decides_has truth (row inputs N)) ((k.holds.0 f).each (row inputs N) (reached N d)),
      λ f. k.holds.1 (record {
        each = λ j h.
            let r = c.each j h in
            subst (λ (x : ℕ). Has truth x) r.is
            ((decides_has truth (row inputs r.position)).yes (f r.position r.completes));
      }),
    );
    fails = (
      λ f N d e. (k.fails.0 f).none (row inputs N) (reached N d) ((decides_has truth (row inputs N)).yes e),
      λ f. k.fails.1 (record {
        none = λ j h q.
            let r = c.each j h in
            f r.position r.completes
            (decided_true (decides_has truth (row inputs r.position)) (subst (λ (x : ℕ). Has truth x) (sym r.is) q));
      }),
    );
  }
    where
      reached : (N : ℕ) → Completes (half_decided up dropped) N → Has rows (row inputs N)
      reached N d = c.all (row inputs N) (record { position = N; completes = d; is = refl })

-- ---- the whole body: its words, and its uses one by one

-- part p is a word of rule r's body, or a use that is no longer to be done
pub data Done (rules : List ℕ) (r rest : ℕ) : Part → Type 0 where
  done_positive : Done rules r rest positive_word
  done_negative : Done rules r rest negative_word
  done_use : (i : ℕ) → i < USE_BITS → Has (uses rules r) i → ¬ Has rest i → Done rules r rest (table_use i)

-- what is known of the parts that are done
pub record UsesDone (rules : List ℕ) (r : ℕ) (s : State) (known : Truth) (rest : ℕ) : Type 0 where
  pub within : rest ⊆ (uses rules r ∩ below USE_BITS)
  pub says : PartsSay rules r (Done rules r rest) s known

done_in : {rules : List ℕ} {r rest : ℕ} (q : Part) → Done rules r rest q → InBody rules r q
done_in _ done_positive = has_positive
done_in _ done_negative = has_negative
done_in _ (done_use i l h n) = has_use i l h

module _ {rules : List ℕ} {r : ℕ} {s : State} where
  -- parts in other words
  parts_same : {A C : Part → Type 0} {t : Truth} → PartsSay rules r A s t → ((p : Part) → A p → C p) → ((p : Part) → C p → A p)
      → PartsSay rules r C s t
  parts_same x there back = record {
    holds = (λ e p c. x.holds.0 e p (back p c), λ f. x.holds.1 (λ p a. f p (there p a)));
    fails = (
      λ e. let f = x.fails.0 e in (f.0, there f.0 f.1, f.2),
      λ f. x.fails.1 (f.0, back f.0 f.1, f.2),
    );
  }

  pub uses_start : {words : Truth} {word first rest : ℕ} → PartsSay rules r IsWord s words → word ≡ uses rules r → first ≡ below USE_BITS
      → rest ≡ word ∩ first → UsesDone rules r s words rest
  uses_start k e f g = rw (g, f, e) (record { within = subset_refl; says = parts_same k there back })
    where
      there : (p : Part) → IsWord p → Done rules r (uses rules r ∩ below USE_BITS) p
      there _ is_positive = done_positive
      there _ is_negative = done_negative

      back : (p : Part) → Done rules r (uses rules r ∩ below USE_BITS) p → IsWord p
      back _ done_positive = is_positive
      back _ done_negative = is_negative
      back _ (done_use i l h n) = absurd (n (has_cut (uses rules r) (below USE_BITS) h (has_below USE_BITS i l)))

  pub uses_lt : {known : Truth} {rest i : ℕ} → UsesDone rules r s known rest → Lowest rest i → i < USE_BITS
  uses_lt u low = below_lt USE_BITS (cut_right (uses rules r) (below USE_BITS) (u.within.each _ low.here))

  pub uses_next : {known one next : Truth} {rest rest' i : ℕ} → UsesDone rules r s known rest → Lowest rest i → rest' ≡ rest ∖ atom i
      → Says (PartHolds rules r (table_use i)) s one → next ≡ both known one → UsesDone rules r s next rest'
  uses_next {rest = rest} {rest' = rest'} {i = i} u low e k f = record {
    within = record { each = λ j h. u.within.each j (without_left rest (atom i) (rw e at h)) };
    says = parts_both u.says (parts_one (table_use i) k) split old new f;
  }
    where
      split : (p : Part) → Done rules r rest' p → Done rules r rest p ⊎ (table_use i ≡ p)
      split _ done_positive = inl done_positive
      split _ done_negative = inl done_negative
      split _ (done_use j l h n) = go (ℕ_discrete i j)
        where
          go : Dec (i ≡ j) → Done rules r rest (table_use j) ⊎ (table_use i ≡ table_use j)
          go (yes q) = inr (ap table_use q)
          go (no m) = inl (done_use j l h (λ q. n (rw e (has_without rest (atom i) q (λ a. m (atom_only i a))))))

      old : (p : Part) → Done rules r rest p → Done rules r rest' p
      old _ done_positive = done_positive
      old _ done_negative = done_negative
      old _ (done_use j l h n) = done_use j l h (λ q. n (without_left rest (atom i) (rw e at q)))

      new : (p : Part) → table_use i ≡ p → Done rules r rest' p
      new p q =
          subst (λ (x : Part). Done rules r rest' x) q
          (done_use i (uses_lt u low) (cut_left (uses rules r) (below USE_BITS) (u.within.each i low.here))
          (λ m. without_right rest (atom i) (rw e at m) (has_atom i)))

  -- a part that fails is enough
  pub uses_fail : {known : Truth} {rest : ℕ} {b : Bool} → UsesDone rules r s known rest → (b ≡ true) ↔ (known ≡ Fails) → b ≡ true
      → PartsSay rules r (InBody rules r) s Fails
  uses_fail u e f = parts_fail (rw (e.0 f) at u.says) done_in

  pub uses_end : {known : Truth} {rest : ℕ} → UsesDone rules r s known rest → rest ≡ 0 → PartsSay rules r (InBody rules r) s known
  uses_end {rest = rest} u e = parts_same u.says done_in back
    where
      back : (p : Part) → InBody rules r p → Done rules r rest p
      back _ has_positive = done_positive
      back _ has_negative = done_negative
      back _ (has_use i l h) = done_use i l h (λ q. has_none (rw e at q))

  -- without uses the words are the body
  pub body_of_words : {words : Truth} {u : ℕ} → PartsSay rules r IsWord s words → u ≡ uses rules r → u ≡ 0 → PartsSay rules r (InBody rules r) s words
  body_of_words k f z = parts_same k there back
    where
      there : (p : Part) → IsWord p → InBody rules r p
      there _ is_positive = has_positive
      there _ is_negative = has_negative

      back : (p : Part) → InBody rules r p → IsWord p
      back _ has_positive = is_positive
      back _ has_negative = is_negative
      back _ (has_use i l h) = absurd (has_none (rw (sym f ∙ z) at h))

-- what the words say, with what is dropped and not up
pub words_told : {rules : List ℕ} {r : ℕ} (up dropped : ℕ) {down : ℕ} {words : Truth} → down ≡ dropped ∖ up → WordsSay rules r up down words
    → PartsSay rules r IsWord (half_decided up dropped) words
words_told up dropped e k = rw e at k

-- ---- what the answers mean

module _ (rules : List ℕ) (r up dropped : ℕ) {t : Truth} (k : BodySays rules r up dropped t) (N : ℕ) (c : Completes (half_decided up dropped) N) where
  -- a body that is known to hold holds
  pub known_holds : t ≡ Holds → Body (lent rules) r N
  known_holds e = parts_body rules r N (λ p i. k.holds.0 e p i N c)

  -- and one that is known to fail fails
  pub known_fails : t ≡ Fails → ¬ Body (lent rules) r N
  known_fails e b = let f = k.fails.0 e in f.2 N c (body_parts rules r N b f.0 f.1)

-- a completion of the state is one of what is known
pub completes_known : {s : State} {N : ℕ} → Completes s N → Completes (half_decided s.up s.dropped) N
completes_known {s} c = record {
  has_up = c.has_up;
  no_dropped = record { none = λ i d. c.no_dropped.none i (without_left s.dropped s.up d) };
}
