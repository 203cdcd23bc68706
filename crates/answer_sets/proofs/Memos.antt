-- The memo of a subset test that said none: whether a rule is satisfied depends on its own atoms alone, so the same is said of every test that comes
-- to the same rules and the same atoms of them.
use Rattle.answer_sets.proofs.Prelude.{not-false, ◌≡◌, refl, sym, subst, ◌∙◌, Bool, true, false, not, ◌↔◌, ◌⊎◌, inl, inr, List, ℕ}
use Rattle.answer_sets.proofs.Prelude.{◌<◌, ◌^◌, replicate, length-replicate, ATOMS}
use Rattle.answer_sets.proofs.Prelude.{EVERY_ATOM, Has, subset, Apart, apart, ◌∩◌, ◌∪◌, ◌∖◌, Decides, has_dec, has_lt, has_cut, cut_left}
use Rattle.answer_sets.proofs.Prelude.{cut_right, has_left, has_right, union_cases, has_without, without_left, without_right, decides_subset}
use Rattle.answer_sets.proofs.Prelude.{decides_apart, subset_le, cut_fits, union_fits, without_fits, Program, Body, Satisfies, SatisfiesAll, lent}
use Rattle.answer_sets.proofs.Prelude.{looks, Between, Finds, Confines, InRule, in_head, in_positive, in_looks, Passed, Completes, undecided, State}
use Rattle.answer_sets.proofs.Prelude.{undecided_intro, lt_of_le_of_lt, arith}
use Rattle.answer_sets.specs.Memo.{OnlyWhole, MEMO_WORDS, Memo, Blank, Written, differing, NoRuleHas, RestAlike}
use Rattle.answer_sets.proofs.Between.{finds_none}
use Rattle.answer_sets.proofs.Bodies.{rest_same}

-- ---- a rule depends on its atoms

module _ (rules : List ℕ) (r N M : ℕ) (same : (i : ℕ) → InRule rules r i → Has N i ↔ Has M i) where
  same_body : Body (lent rules) r M → Body (lent rules) r N
  same_body b = record {
    positive_up = record { each = λ i h. (same i (in_positive h)).1 (b.positive_up.each i h) };
    rest_holds = rest_same rules r N M (λ i p. same i (in_looks p)) ∙ b.rest_holds;
  }

  pub same_satisfies : Satisfies (lent rules) r N → Satisfies (lent rules) r M
  same_satisfies s = record {
    head_up = λ b.
        let h = s.head_up (same_body b) in
        (h.0, h.1, (same h.0 (in_head h.1)).0 h.2);
  }

-- ---- atoms in which two states do not differ

in_both : (a b : ℕ) {i : ℕ} → ¬ Has (a ∖ b) i → Has a i → Has b i
in_both a b {i} n h = go (has_dec b i)
  where
    go : Dec (Has b i) → Has b i
    go (yes p) = p
    go (no p) = absurd (n (has_without a b h p))

module _ (s t : State) {i : ℕ} (n : ¬ Has (differing s t) i) where
  same_up : Has s.up i → Has t.up i
  same_up h = in_both s.up t.up (λ d. n (has_left _ _ (has_left (s.up ∖ t.up) (t.up ∖ s.up) d))) h

  same_dropped : Has s.dropped i → Has t.dropped i
  same_dropped h = in_both s.dropped t.dropped (λ d. n (has_right _ _ (has_left (s.dropped ∖ t.dropped) (t.dropped ∖ s.dropped) d))) h

-- ---- a set of the one test becomes a set of the other

-- as N where the states do not differ, and as s is up where they do
abbrev moved : State → ℕ → ℕ → ℕ
moved s w N = (N ∖ w) ∪ (s.up ∩ w)

module _ (s : State) (w N : ℕ) where
  moved_same : {i : ℕ} → ¬ Has w i → Has (moved s w N) i ↔ Has N i
  moved_same {i} n = (λ h. go (union_cases (N ∖ w) (s.up ∩ w) h), λ h. has_left (N ∖ w) (s.up ∩ w) (has_without N w h n))
    where
      go : Has (N ∖ w) i ⊎ Has (s.up ∩ w) i → Has N i
      go (inl h) = without_left N w h
      go (inr h) = absurd (n (cut_right s.up w h))

  moved_completes : {t : State} → w ≡ differing s t → Apart s.up s.dropped → Completes t N → Completes s (moved s w N)
  moved_completes {t} e free c = record {
    has_up = record { each = λ i h. up i h (has_dec w i) };
    no_dropped = record { none = λ i d h. down i d (union_cases (N ∖ w) (s.up ∩ w) h) };
  }
    where
      up : (i : ℕ) → Has s.up i → Dec (Has w i) → Has (moved s w N) i
      up i h (yes p) = has_right (N ∖ w) (s.up ∩ w) (has_cut s.up w h p)
      up i h (no n) = has_left (N ∖ w) (s.up ∩ w) (has_without N w (c.has_up.each i (same_up s t (rw e at n) h)) n)

      down : (i : ℕ) → Has s.dropped i → Has (N ∖ w) i ⊎ Has (s.up ∩ w) i → ⊥
      down i d (inl h) = c.no_dropped.none i (same_dropped s t (rw e at (without_right N w h)) d) (without_left N w h)
      down i d (inr h) = free.none i (cut_left s.up w h) d

  moved_fits : s.up < 2 ^ ATOMS → N < 2 ^ ATOMS → moved s w N < 2 ^ ATOMS
  moved_fits f g = union_fits (N ∖ w) (s.up ∩ w) ATOMS (without_fits N w ATOMS g) (cut_fits s.up w ATOMS f)

-- ---- what a memo says

-- a test that said none may be written down
pub memo_whole : {P : Program} {M : ℕ} {p : Passed} → p.state.up < 2 ^ ATOMS → Confines M p.state.dropped → {r : Bool}
    → Decides (Between P p.left M p.state) r → r ≡ false → OnlyWhole P p
memo_whole {P} {M} {p} fits conf d e = record { up_fits = fits; has_all = all }
  where
    inside : (N : ℕ) → N < 2 ^ ATOMS → Completes p.state N → (i : ℕ) → Has N i → Dec (Has M i) → Has M i
    inside N l c i h (yes m) = m
    inside N l c i h (no m) = absurd (c.no_dropped.none i (conf.outside i (has_lt N ATOMS l h) m) h)

    all : (N : ℕ) → N < 2 ^ ATOMS → Completes p.state N → SatisfiesAll P p.left N → (i : ℕ) → i < ATOMS → ¬ Has p.state.dropped i → Has N i
    all N l c k i b n = go (has_dec N i) (has_dec M i)
      where
        go : Dec (Has N i) → Dec (Has M i) → Has N i
        go (yes h) m = h
        go (no h) (yes m) =
            absurd
            (d.no e (record {
              set = N;
              proper = record { within = record { each = λ j q. inside N l c j q (has_dec M j) }; short = λ f. h (f.each i m) };
              completes = c;
              satisfied = k;
            }))
        go (no h) (no m) = absurd (n (conf.outside i b m))

-- and where another test is like it, that one says none too
pub memo_none : {rules : List ℕ} {M : ℕ} {n p : Passed} {b : Bool} → M < 2 ^ ATOMS → OnlyWhole (lent rules) n → (b ≡ true → RestAlike rules M n p) → b ≡ true
    → Finds (lent rules) p.left M p.state false 0
memo_none {rules} {M} {n} {p} fits o says f = finds_none none
  where
    a : RestAlike rules M n p
    a = says f

    w : ℕ
    w = differing n.state p.state

    none : Between (lent rules) p.left M p.state → ⊥
    none b = b.proper.short (record { each = λ i h. go i h (has_dec b.set i) })
      where
        word : b.set < 2 ^ ATOMS
        word = lt_of_le_of_lt (subset_le b.proper.within) fits

        all : SatisfiesAll (lent rules) n.left (moved n.state w b.set)
        all = record {
          each = λ r h.
              same_satisfies rules r b.set (moved n.state w b.set)
              (λ i k. let s = moved_same n.state w b.set (a.same_rules.none r h i k) in (s.1, s.0))
              (b.satisfied.each r (a.part.each r h));
        }

        go : (i : ℕ) → Has M i → Dec (Has b.set i) → Has b.set i
        go i h (yes k) = k
        go i h (no k) =
            (moved_same n.state w b.set apart_w).0
            (o.has_all (moved n.state w b.set) (moved_fits n.state w b.set o.up_fits word)
            (moved_completes n.state w b.set refl a.free b.completes) all i l
            (λ d. not_dropped (same_dropped n.state p.state apart_w d)))
          where
            l : i < ATOMS
            l = has_lt M ATOMS fits h

            not_dropped : ¬ Has p.state.dropped i
            not_dropped d = a.in_position.none i d h

            apart_w : ¬ Has w i
            apart_w q = a.same_open.none i q
                (undecided_intro p.state.up p.state.dropped i l (λ u. k (b.completes.has_up.each i u)) not_dropped)

-- ---- the words of a memo

pub memo_written : {rules words : List ℕ} {p : Passed} → Written p words → OnlyWhole (lent rules) p → Memo rules words
memo_written {rules} k o = record { long = k.long; only_whole = rw k.is o }

-- with every bit set nothing completes the state
pub blank_memo : Blank (replicate MEMO_WORDS EVERY_ATOM)
blank_memo = record {
  memo = λ rules. record {
    long = length-replicate MEMO_WORDS EVERY_ATOM;
    only_whole = record {
      up_fits = omega arith;
      has_all = λ N l c k i b n. absurd (c.no_dropped.none 0 (record { bit = refl }) (c.has_up.each 0 (record { bit = refl })));
    };
  };
}

-- ---- the tests of the code

-- a rule none of whose atoms are in the word
pub untouched_rule : {rules : List ℕ} {r all w : ℕ} {b : Bool} → all ≡ (lent rules).head r ∪ ((lent rules).positive r ∪ looks rules r)
    → b ≡ apart all w → b ≡ true → (i : ℕ) → InRule rules r i → ¬ Has w i
untouched_rule {rules} {r} {all} {w} e f g i k = ((decides_apart all w).yes (sym f ∙ g)).none i (rw e (inside k))
  where
    inside : InRule rules r i → Has ((lent rules).head r ∪ ((lent rules).positive r ∪ looks rules r)) i
    inside (in_head h) = has_left ((lent rules).head r) ((lent rules).positive r ∪ looks rules r) h
    inside (in_positive h) = has_right ((lent rules).head r) ((lent rules).positive r ∪ looks rules r) (has_left ((lent rules).positive r) (looks rules r) h)
    inside (in_looks h) = has_right ((lent rules).head r) ((lent rules).positive r ∪ looks rules r) (has_right ((lent rules).positive r) (looks rules r) h)

pub alike_memo : {rules : List ℕ} {M w free-atoms : ℕ} {n m p : Passed} {b₁ b₂ b₃ b₄ b : Bool} → n ≡ m → b₁ ≡ subset n.left p.left → not b₁ ≡ false
    → b₂ ≡ apart n.state.up n.state.dropped → not b₂ ≡ false → b₃ ≡ apart p.state.dropped M → not b₃ ≡ false
    → w ≡ differing n.state p.state → free-atoms ≡ undecided p.state.up p.state.dropped → b₄ ≡ apart w free-atoms → not b₄ ≡ false
    → (b ≡ true → NoRuleHas rules n.left w) → b ≡ true → RestAlike rules M m p
alike_memo {rules} {M} {w} {free-atoms} {n} {m} {p} e t₁ f₁ t₂ f₂ t₃ f₃ d o t₄ f₄ same f = subst (λ x. RestAlike rules M x p) e (record {
  part = (decides_subset n.left p.left).yes (sym t₁ ∙ not-false _ f₁);
  free = (decides_apart n.state.up n.state.dropped).yes (sym t₂ ∙ not-false _ f₂);
  in_position = (decides_apart p.state.dropped M).yes (sym t₃ ∙ not-false _ f₃);
  same_open = rw (d, o) at ((decides_apart w free-atoms).yes (sym t₄ ∙ not-false _ f₄));
  same_rules = rw d at (same f);
})
