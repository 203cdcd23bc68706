-- Document 02, S-7: what the body test says at a half-decided position. With everything decided it is the exact test; knowing more
-- never changes holds or fails; and where a body holds and the whole head is dropped no completion satisfies the rule.
use Rattle.answer_sets.proofs.Prelude.{◌≡◌, refl, sym, ◌∙◌, Bool, true, false, not, ◌&&◌, ◌↔◌, ◌⊎◌, inl, inr, List, ℕ, ◌+◌, ◌*◌, ◌^◌, ◌<◌, get_or, ATOMS}
use Rattle.answer_sets.proofs.Prelude.{Has, has, ◌⊆◌, ◌∩◌, Apart, ◌∖◌, Decides, some_below, test_cases, and-true, not_is_true, not_both}
use Rattle.answer_sets.proofs.Prelude.{true_of_not_false, false_of_not_true, decided_true, decided as is-decided, ext, has_dec, has_lt, has_cut}
use Rattle.answer_sets.proofs.Prelude.{cut_left, cut_right, has_without, subset_dec, subset_trans, decides_has, decides_apart, some_at, some_intro}
use Rattle.answer_sets.proofs.Prelude.{CONTACT_WORDS, Body, Satisfies, lent, rule_at, negative, inputs, uses, USE_BITS, used_table, use_holds, body}
use Rattle.answer_sets.proofs.Prelude.{Completes, half_decided, Part, positive_word, negative_word, table_use, PartHolds, InBody, has_positive}
use Rattle.answer_sets.proofs.Prelude.{has_negative, has_use, BodySays, Truth, Holds, Fails}
use Rattle.answer_sets.proofs.JudgedSets.{decides_body}
use Rattle.answer_sets.proofs.Bodies.{use_same, body_parts, parts_body}
use Rattle.answer_sets.proofs.Parts.{known_holds}
use Rattle.answer_sets.proofs.Truths.{holds_not_fails}

-- ---- "With everything decided, open can't be said."

-- the exact body test's answer
abbrev pub exactly : Bool → Truth
exactly true = Holds
exactly false = Fails

module _ (rules : List ℕ) (r M dropped : ℕ) (fits : (i : ℕ) → get_or rules i 0 < 2 ^ ATOMS)
    (decided : (i : ℕ) → i < ATOMS → ¬ Has M i → Has dropped i) where
  -- an atom of a word of the program is up in a completion just where it is in M
  same_atom : {w i N : ℕ} → w < 2 ^ ATOMS → Has w i → Completes (half_decided M dropped) N → Has N i → Has M i
  same_atom {w} {i} {N} l h c k = go (has_dec M i)
    where
      go : Dec (Has M i) → Has M i
      go (yes m) = m
      go (no n) = absurd (c.no_dropped.none i (has_without dropped M (decided i (has_lt w ATOMS l h) n) n) k)

  same_inputs : (t N : ℕ) → Completes (half_decided M dropped) N → inputs rules t ∩ M ≡ inputs rules t ∩ N
  same_inputs t N c =
      ext (inputs rules t ∩ M) (inputs rules t ∩ N)
      (λ i h. has_cut (inputs rules t) N (cut_left (inputs rules t) M h) (c.has_up.each i (cut_right (inputs rules t) M h)))
      (λ i h. let k = cut_left (inputs rules t) N h in
      has_cut (inputs rules t) M k (same_atom (fits (CONTACT_WORDS * t)) k c (cut_right (inputs rules t) N h)))

  -- so a part is true in a completion just where it is true at M
  part_same : (p : Part) (N : ℕ) → Completes (half_decided M dropped) N → PartHolds rules r p M ↔ PartHolds rules r p N
  unfolding lent
  part_same positive_word N c = (
    λ f. subset_trans f c.has_up,
    λ f. record { each = λ i h. same_atom (fits (rule_at r + 1)) h c (f.each i h) },
  )
  part_same negative_word N c = (
    λ f. record { none = λ i h k. f.none i h (same_atom (fits (rule_at r + 2)) h c k) },
    λ f. record { none = λ i h k. f.none i h (c.has_up.each i k) },
  )
  part_same (table_use i) N c =
      let e = use_same rules i M N (same_inputs (used_table i) N c) in
      (λ f. sym e ∙ f, λ f. e ∙ f)

  -- a body that fails fails by a part
  failing_part : ¬ Body (lent rules) r M → (p : Part) × InBody rules r p × ¬ PartHolds rules r p M
  failing_part n = words (subset_dec ((lent rules).positive r) M) (is-decided (decides_apart (negative rules r) M))
    where
      broken : ℕ → Bool
      broken i = has (uses rules r) i && not (use_holds rules i M)

      tables : (lent rules).positive r ⊆ M → Apart (negative rules r) M → (some_below USE_BITS broken ≡ true) ⊎ (some_below USE_BITS broken ≡ false)
          → (p : Part) × InBody rules r p × ¬ PartHolds rules r p M
      tables f g (inl e) =
          let s = some_at USE_BITS broken e in
          let b = (and-true (has (uses rules r) s.0) (not (use_holds rules s.0 M))).0 s.2 in (
            table_use s.0,
            has_use s.0 s.1 ((decides_has (uses rules r) s.0).yes b.0),
            λ h. not_both h ((not_is_true (use_holds rules s.0 M)).0 b.1),
          )
      tables f g (inr e) = absurd (n (parts_body rules r M each))
        where
          each : (p : Part) → InBody rules r p → PartHolds rules r p M
          each _ has_positive = f
          each _ has_negative = g
          each _ (has_use i l h) =
              true_of_not_false (use_holds rules i M)
              (λ q. not_both
              (some_intro USE_BITS broken i l
              ((and-true (has (uses rules r) i) (not (use_holds rules i M))).1 (
                decided_true (decides_has (uses rules r) i) h,
                (not_is_true (use_holds rules i M)).1 q,
              ))) e)

      words : Dec ((lent rules).positive r ⊆ M) → Dec (Apart (negative rules r) M) → (p : Part) × InBody rules r p × ¬ PartHolds rules r p M
      words (no f) d = (positive_word, has_positive, f)
      words (yes f) (no g) = (negative_word, has_negative, g)
      words (yes f) (yes g) = tables f g (test_cases (some_below USE_BITS broken))

  pub decided_exactly : {t : Truth} → BodySays rules r M dropped t → t ≡ exactly (body (lent rules) r M)
  decided_exactly {t} k = go (body (lent rules) r M) (decides_body (lent rules) r M)
    where
      go : (b : Bool) → Decides (Body (lent rules) r M) b → t ≡ exactly b
      go true d = k.holds.1 (λ p i N c. (part_same p N c).0 (body_parts rules r M (d.yes refl) p i))
      go false d = let f = failing_part (d.no refl) in k.fails.1 (f.0, f.1, λ N c h. f.2 ((part_same f.0 N c).1 h))

-- so a test for success is the exact test
pub success_exactly : {t : Truth} {b answer : Bool} → t ≡ exactly b → (answer ≡ true) ↔ (t ≡ Holds) → answer ≡ b
success_exactly {b = true} e f = f.1 e
success_exactly {b = false} {answer = answer} e f = false_of_not_true answer (λ g. holds_not_fails (sym (f.0 g) ∙ e))

-- ---- knowing more

module _ (up dropped up' dropped' : ℕ) (ups : up ⊆ up') (downs : (dropped ∖ up) ⊆ (dropped' ∖ up')) where
  -- a completion of what is known more of is one of what is known less of
  completes_less : {N : ℕ} → Completes (half_decided up' dropped') N → Completes (half_decided up dropped) N
  completes_less c = record {
    has_up = subset_trans ups c.has_up;
    no_dropped = record { none = λ i d. c.no_dropped.none i (downs.each i d) };
  }

  pub more_holds : {rules : List ℕ} {r : ℕ} {t t' : Truth} → BodySays rules r up dropped t → BodySays rules r up' dropped' t' → t ≡ Holds → t' ≡ Holds
  more_holds k k' e = k'.holds.1 (λ p i N c. k.holds.0 e p i N (completes_less c))

  pub more_fails : {rules : List ℕ} {r : ℕ} {t t' : Truth} → BodySays rules r up dropped t → BodySays rules r up' dropped' t' → t ≡ Fails → t' ≡ Fails
  more_fails k k' e = let f = k.fails.0 e in k'.fails.1 (f.0, f.1, λ N c. f.2 N (completes_less c))

-- ---- "no completion there satisfies that rule"

pub none_satisfies : (rules : List ℕ) (r up dropped : ℕ) → BodySays rules r up dropped Holds → (lent rules).head r ⊆ (dropped ∖ up) → (N : ℕ)
    → Completes (half_decided up dropped) N → ¬ Satisfies (lent rules) r N
none_satisfies rules r up dropped k gone N c s =
    let h = s.head_up (known_holds rules r up dropped k N c refl) in c.no_dropped.none h.0 (gone.each h.0 h.1) h.2
