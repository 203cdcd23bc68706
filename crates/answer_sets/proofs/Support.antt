-- Answer sets by their members: minimality said positively, support (only facts and head atoms are up), that no answer set
-- lies within another, and that fewer constraints lose none. Each rests on a smaller position that still satisfies the kept rules; deciding `⊆` is all
-- that it takes.
use Rattle.answer_sets.proofs.Prelude.{◌≡◌, subst, ◌⊎◌, inl, inr, ℕ, zero, suc, ◌^◌, ◌<◌, arith, pow-suc, Has, ◌⊆◌, ◌∩◌, ◌∪◌, union_in, subset_dec}
use Rattle.answer_sets.proofs.Prelude.{has_none, has_cut, cut_left, cut_right, has_left, has_right, union_cases, has_lt, union_has, union_at, Program}
use Rattle.answer_sets.proofs.Prelude.{Satisfies, Kept, ReductModel, AnswerSet}

-- so a word has only numbers below itself
lt_pow : (n : ℕ) → n < 2 ^ n
lt_pow zero = omega arith
lt_pow (suc n) = omega (arith, lt_pow n, pow-suc 2 n)

-- an atom is a fact or in the head of a numbered rule
abbrev pub Supported : Program → ℕ → ℕ → ℕ → Type 0
Supported P which facts a = Has facts a ⊎ ((r : ℕ) × Has which r × Has (P.head r) a)

-- the word of the supported atoms
supported_word : Program → ℕ → ℕ → ℕ
supported_word P which facts = facts ∪ union_in which which (λ r. P.head r)

module _ (P : Program) (which facts : ℕ) where
  -- minimality, positively: each model of the kept rules within M contains M
  pub least : (M : ℕ) → AnswerSet P which facts M → (N : ℕ) → N ⊆ M → ReductModel P which facts M N → M ⊆ N
  least M s N w m = go (subset_dec M N)
    where
      go : Dec (M ⊆ N) → M ⊆ N
      go (yes f) = f
      go (no h) = absurd (s.minimal N (record { within = w; short = h }) m)

  -- and back
  pub of_least : (M : ℕ) → ReductModel P which facts M M
      → ((N : ℕ) → N ⊆ M → ReductModel P which facts M N → M ⊆ N) → AnswerSet P which facts M
  of_least M m f = record { model = m; minimal = λ N p n. p.short (f N p.within n) }

  -- an answer set satisfies every numbered rule: one that is not kept, because its body fails
  pub satisfied : (M r : ℕ) → AnswerSet P which facts M → Has which r → Satisfies P r M
  satisfied M r s h =
      record { head_up = λ b. (s.model.each r (record { numbered = h; holds = b })).head_up b }

  -- no answer set lies within another
  pub antichain : (M N : ℕ) → AnswerSet P which facts M → AnswerSet P which facts N → M ⊆ N → N ⊆ M
  antichain M N s t f =
      least N t M f (record { facts_up = s.model.facts_up; each = λ r k. satisfied M r s k.numbered })

  supported_has : (a : ℕ) → Supported P which facts a → Has (supported_word P which facts) a
  unfolding supported_word
  supported_has a (inl h) = has_left facts (union_in which which (λ r. P.head r)) h
  supported_has a (inr s) =
      has_right facts (union_in which which (λ r. P.head r))
      (union_has which which (λ r. P.head r) s.0 a (has_lt which which (lt_pow which) s.1) s.1 s.2)

  supported_at : (a : ℕ) → Has (supported_word P which facts) a → Supported P which facts a
  unfolding supported_word
  supported_at a h = go (union_cases facts (union_in which which (λ r. P.head r)) h)
    where
      go : Has facts a ⊎ Has (union_in which which (λ r. P.head r)) a → Supported P which facts a
      go (inl p) = inl p
      go (inr p) = let s = union_at which which (λ r. P.head r) a p in inr (s.0, s.2, s.3)

  -- an answer set has only facts and atoms of heads: cut to those it still satisfies each kept rule
  pub supported : (M a : ℕ) → AnswerSet P which facts M → Has M a → Supported P which facts a
  supported M a s h = supported_at a (cut_right M word ((least M s (M ∩ word) within model).each a h))
    where
      word : ℕ
      word = supported_word P which facts

      within : M ∩ word ⊆ M
      within = record { each = λ i p. cut_left M word p }

      model : ReductModel P which facts M (M ∩ word)
      model = record {
        facts_up = record {
          each = λ i p. has_cut M word (s.model.facts_up.each i p) (supported_has i (inl p));
        };
        each = λ r k. record {
          head_up = λ b.
              let t = (s.model.each r k).head_up k.holds in
              (t.0, t.1, has_cut M word t.2 (supported_has t.0 (inr (r, k.numbered, t.1))));
        };
      }

-- no constraint is kept at an answer set, since it would want a head atom: without some of them the reduct there is the same
pub fewer_constraints : {P : Program} {more fewer facts M : ℕ} → fewer ⊆ more → ((r : ℕ) → Has more r → Has fewer r ⊎ (P.head r ≡ 0))
    → AnswerSet P more facts M → AnswerSet P fewer facts M
fewer_constraints {P} {more} {fewer} {facts} {M} f g a = record {
  model = record {
    facts_up = a.model.facts_up;
    each = λ r k. a.model.each r (record { numbered = f.each r k.numbered; holds = k.holds });
  };
  minimal = λ N p m.
      a.minimal N p (record { facts_up = m.facts_up; each = λ r k. m.each r (kept r k (g r k.numbered)) });
}
  where
    kept : (r : ℕ) → Kept P more M r → Has fewer r ⊎ (P.head r ≡ 0) → Kept P fewer M r
    kept r k (inl h) = record { numbered = h; holds = k.holds }
    kept r k (inr e) =
        let h = (a.model.each r k).head_up k.holds in
        absurd (has_none (subst (λ (w : ℕ). Has w h.0) e h.1))
