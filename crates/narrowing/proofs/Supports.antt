-- Support: each atom of an answer set that is no fact has a rule that supports it.
use Rattle.narrowing.proofs.Prelude.{◌≡◌, sym, subst, Bool, true, false, not, ◌&&◌, ◌⊎◌, inl, inr, ℕ, ◌^◌, ◌<◌, ℕ_discrete, ATOMS, Has, has, ◌⊂◌, ◌∖◌}
use Rattle.narrowing.proofs.Prelude.{atom, some_below, test_cases, and-true, not_is_true, not_both, decided, decided_true, decided_false, decides_has}
use Rattle.narrowing.proofs.Prelude.{has_lt, has_without, without_left, without_right, has_atom, atom_only, Program, Body, Satisfies, Kept, AnswerSet}
use Rattle.narrowing.proofs.Prelude.{Supports}
use Rattle.atoms.proofs.Bounded.{some_at, some_intro}
use Rattle.plan.specs.Limits.{MAX_RULES}
use Rattle.answer_sets.specs.Test.{kept, satisfies}
use Rattle.answer_sets.proofs.JudgedSets.{decides_body, decides_satisfies, kept_has, kept_at, kept_fits}

-- ---- an answer set's atom is supported

module _ (P : Program) (which facts M a : ℕ) (fits : which < 2 ^ ATOMS) (answer : AnswerSet P which facts M) (up : Has M a)
    (own : ¬ Has facts a) where
  -- M without a, which satisfies not all kept rules
  abbrev others : ℕ
  others = M ∖ atom a

  proper : others ⊂ M
  proper = record {
    within = record { each = λ i h. without_left M (atom a) h };
    short = λ f. without_right M (atom a) (f.each a up) (has_atom a);
  }

  -- a rule that only a satisfies supports a
  breaks_supports : (r : ℕ) → Kept P which M r → ¬ Satisfies P r others → Supports P r M a
  breaks_supports r k n = record {
    holds = k.holds;
    in_head = subst (λ (x : ℕ). Has (P.head r) x) (only t.0 t.1 t.2) t.1;
    not_positive = λ p. without_right M (atom a) (body.positive_up.each a p) (has_atom a);
    only = only;
  }
    where
      t : (b : ℕ) × Has (P.head r) b × Has M b
      t = (answer.model.each r k).head_up k.holds

      body : Body P r others
      body = go (decided (decides_body P r others))
        where
          go : Dec (Body P r others) → Body P r others
          go (yes b) = b
          go (no m) = absurd (n (record { head_up = λ b. absurd (m b) }))

      only : (b : ℕ) → Has (P.head r) b → Has M b → b ≡ a
      only b h m = go (ℕ_discrete a b)
        where
          go : Dec (a ≡ b) → b ≡ a
          go (yes e) = sym e
          go (no d) =
              absurd (n (record { head_up = λ _. (b, h, has_without M (atom a) m (λ q. d (atom_only a q))) }))

  -- the test for such a rule
  abbrev breaks : ℕ → Bool
  breaks r = has (kept P which M) r && not (satisfies P r others)

  broken : (r : ℕ) → breaks r ≡ true → Has which r × Supports P r M a
  broken r e =
      let both = (and-true (has (kept P which M) r) (not (satisfies P r others))).0 e in
      let k = kept_at P which M r ((decides_has (kept P which M) r).yes both.0) in
      (k.numbered, breaks_supports r k ((decides_satisfies P r others).no ((not_is_true (satisfies P r others)).0 both.1)))

  -- were there none, M without a would be a model
  none_broken : some_below MAX_RULES breaks ≡ false → ⊥
  none_broken e =
      answer.minimal others proper
      (record {
        facts_up = record {
          each = λ i f.
              has_without M (atom a) (answer.model.facts_up.each i f)
              (λ q. own (subst (λ (x : ℕ). Has facts x) (sym (atom_only a q)) f));
        };
        each = λ r k. go r (kept_has P which M r fits k) (decided (decides_satisfies P r others));
      })
    where
      go : (r : ℕ) → Has (kept P which M) r → Dec (Satisfies P r others) → Satisfies P r others
      go r h (yes s) = s
      go r h (no n) =
          absurd
          (not_both
          (some_intro MAX_RULES breaks r (has_lt (kept P which M) MAX_RULES (kept_fits P which M) h)
          ((and-true (has (kept P which M) r) (not (satisfies P r others))).1
          (decided_true (decides_has (kept P which M) r) h, (not_is_true (satisfies P r others)).1 (decided_false (decides_satisfies P r others) n))))
          e)

  pub supporter : (r : ℕ) × Has which r × Supports P r M a
  supporter = go (test_cases (some_below MAX_RULES breaks))
    where
      go : (some_below MAX_RULES breaks ≡ true) ⊎ (some_below MAX_RULES breaks ≡ false) → (r : ℕ) × Has which r × Supports P r M a
      go (inl e) = let found = some_at MAX_RULES breaks e in let b = broken found.0 found.2 in (found.0, b.0, b.1)
      go (inr e) = absurd (none_broken e)
