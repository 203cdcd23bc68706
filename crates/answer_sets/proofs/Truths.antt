-- What is known of tests, put together: the three answers are apart, two tests together, and a test the other way round.
use Rattle.answer_sets.proofs.Prelude.{◌≡◌, refl, sym, ◌∙◌, Bool, true, false, not, ◌↔◌, ◌⊎◌, inl, inr, ℕ, arith, not-true, not-false, ◌⊆◌}
use Rattle.answer_sets.proofs.Prelude.{subset, Apart, apart, decides_subset, decides_apart, some_atom, not_both, true_of_not_false, false_of_not_true}
use Rattle.answer_sets.proofs.Prelude.{not_is_true, Says, both, opposite, WordSays, RowsSay, State, Truth, Holds, Fails, Open}

pub holds_not_fails : Holds ≡ Fails → ⊥
holds_not_fails e = let z : ◌≡◌ {A = ℕ} 0 1 = cc in omega arith

pub open_not_holds : Open ≡ Holds → ⊥
open_not_holds e = let z : ◌≡◌ {A = ℕ} 0 1 = cc in omega arith

pub open_not_fails : Open ≡ Fails → ⊥
open_not_fails e = let z : ◌≡◌ {A = ℕ} 0 1 = cc in omega arith

-- ---- two tests together

pub both_holds : (a b : Truth) → (both a b ≡ Holds) ↔ ((a ≡ Holds) × (b ≡ Holds))
both_holds Fails b = (λ e. absurd (holds_not_fails (sym e)), λ p. absurd (holds_not_fails (sym p.0)))
both_holds Holds b = (λ e. (refl, e), λ p. p.1)
both_holds Open Fails = (λ e. absurd (holds_not_fails (sym e)), λ p. absurd (open_not_holds p.0))
both_holds Open Holds = (λ e. absurd (open_not_holds e), λ p. absurd (open_not_holds p.0))
both_holds Open Open = (λ e. absurd (open_not_holds e), λ p. absurd (open_not_holds p.0))

either : {A B C : Type 0} → (A → C) → (B → C) → A ⊎ B → C
either f g (inl a) = f a
either f g (inr b) = g b

pub both_fails : (a b : Truth) → (both a b ≡ Fails) ↔ ((a ≡ Fails) ⊎ (b ≡ Fails))
both_fails Fails b = (λ e. inl refl, λ p. refl)
both_fails Holds b = (λ e. inr e, either (λ e. absurd (holds_not_fails e)) (λ e. e))
both_fails Open Fails = (λ e. inr refl, λ p. refl)
both_fails Open Holds = (λ e. absurd (open_not_fails e), either (λ e. absurd (open_not_fails e)) (λ e. absurd (holds_not_fails e)))
both_fails Open Open = (λ e. absurd (open_not_fails e), either (λ e. absurd (open_not_fails e)) (λ e. absurd (open_not_fails e)))

-- ---- a test the other way round

opposite_holds : (t : Truth) → (opposite t ≡ Holds) ↔ (t ≡ Fails)
opposite_holds Holds = (λ e. absurd (holds_not_fails (sym e)), λ e. absurd (holds_not_fails e))
opposite_holds Fails = (λ e. refl, λ e. refl)
opposite_holds Open = (λ e. absurd (open_not_holds e), λ e. absurd (open_not_fails e))

opposite_fails : (t : Truth) → (opposite t ≡ Fails) ↔ (t ≡ Holds)
opposite_fails Holds = (λ e. refl, λ e. refl)
opposite_fails Fails = (λ e. absurd (holds_not_fails e), λ e. absurd (holds_not_fails (sym e)))
opposite_fails Open = (λ e. absurd (open_not_fails e), λ e. absurd (open_not_holds e))

pub says_opposite : {s : State} {t u : Truth} (b : ℕ → Bool) → u ≡ opposite t → Says (λ N. b N ≡ true) s t → Says (λ N. not (b N) ≡ true) s u
says_opposite {t = t} b e k = rw e (record {
  holds = (
    λ f N c. (not_is_true (b N)).1 (false_of_not_true (b N) (k.fails.0 ((opposite_holds t).0 f) N c)),
    λ f. (opposite_holds t).1 (k.fails.1 (λ N c g. not_both g ((not_is_true (b N)).0 (f N c)))),
  );
  fails = (
    λ f N c g. not_both (k.holds.0 ((opposite_fails t).0 f) N c) ((not_is_true (b N)).0 g),
    λ f. (opposite_fails t).1 (k.holds.1 (λ N c. true_of_not_false (b N) (λ g. f N c ((not_is_true (b N)).1 g)))),
  );
})

-- the same test in other words
pub says_same : {s : State} {t : Truth} (a b : ℕ → Bool) → ((N : ℕ) → a N ≡ b N) → Says (λ N. a N ≡ true) s t → Says (λ N. b N ≡ true) s t
says_same a b e k = record {
  holds = (λ f N c. sym (e N) ∙ k.holds.0 f N c, λ f. k.holds.1 (λ N c. e N ∙ f N c));
  fails = (λ f N c g. k.fails.0 f N c (e N ∙ g), λ f. k.fails.1 (λ N c g. f N c (sym (e N) ∙ g)));
}

-- ---- the code's tests of a word, and of the rows that are left

module _ {word wanted barred : ℕ} {a : Bool} (free : Apart wanted barred) (ea : a ≡ apart word barred) where
  -- wanted atoms are not barred
  wanted_free : word ⊆ wanted → Apart word barred
  wanted_free f = record { none = λ i h b. free.none i (f.each i h) b }

  met : not a ≡ true → ¬ Apart word barred
  met t = (decides_apart word barred).no (sym ea ∙ not-true a t)

  unmet : not a ≡ false → Apart word barred
  unmet t = (decides_apart word barred).yes (sym ea ∙ not-false a t)

  pub word_fails : not a ≡ true → WordSays word wanted barred Fails
  word_fails t = record {
    holds = (λ e. absurd (holds_not_fails (sym e)), λ f. absurd (met t (wanted_free f)));
    fails = (λ e. met t, λ n. refl);
  }

  module _ {b : Bool} (ta : not a ≡ false) (eb : b ≡ subset word wanted) where
    pub word_holds : b ≡ true → WordSays word wanted barred Holds
    word_holds t = record {
      holds = (λ e. (decides_subset word wanted).yes (sym eb ∙ t), λ f. refl);
      fails = (λ e. absurd (holds_not_fails e), λ n. absurd (n (unmet ta)));
    }

    pub word_open : b ≡ false → WordSays word wanted barred Open
    word_open t = record {
      holds = (λ e. absurd (open_not_holds e), λ f. absurd ((decides_subset word wanted).no (sym eb ∙ t) f));
      fails = (λ e. absurd (open_not_fails e), λ n. absurd (n (unmet ta)));
    }

module _ {rows word : ℕ} {a : Bool} (some : ¬ (rows ≡ 0)) (ea : a ≡ apart rows word) where
  -- where there is a row, the word cannot have all and none
  not_none : rows ⊆ word → ¬ Apart rows word
  not_none f n = let i = some_atom rows some in n.none i.0 i.1 (f.each i.0 i.1)

  pub rows_fail : a ≡ true → RowsSay rows word Fails
  rows_fail t =
      let n = (decides_apart rows word).yes (sym ea ∙ t) in
      record { holds = (λ e. absurd (holds_not_fails (sym e)), λ f. absurd (not_none f n)); fails = (λ e. n, λ m. refl) }

  module _ {b : Bool} (ta : a ≡ false) (eb : b ≡ subset rows word) where
    not_apart : ¬ Apart rows word
    not_apart = (decides_apart rows word).no (sym ea ∙ ta)

    pub rows_hold : b ≡ true → RowsSay rows word Holds
    rows_hold t = record {
      holds = (λ e. (decides_subset rows word).yes (sym eb ∙ t), λ f. refl);
      fails = (λ e. absurd (holds_not_fails e), λ n. absurd (not_apart n));
    }

    pub rows_open : b ≡ false → RowsSay rows word Open
    rows_open t = record {
      holds = (λ e. absurd (open_not_holds e), λ f. absurd ((decides_subset rows word).no (sym eb ∙ t) f));
      fails = (λ e. absurd (open_not_fails e), λ n. absurd (not_apart n));
    }
