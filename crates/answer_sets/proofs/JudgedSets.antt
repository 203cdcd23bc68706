-- The computing twins decide what they are twins of. Rule numbers are bits of a word, so `which` is below 2 ^ 64.
use Rattle.answer_sets.proofs.Prelude.{not-true, not-false, ◌≡◌, refl, sym, ◌∙◌, Bool, true, false, not, ◌&&◌, ℕ, ◌^◌, ◌<◌, ATOMS, Has, has, ◌⊆◌, ◌⊂◌}
use Rattle.answer_sets.proofs.Prelude.{subset, apart, ◌∖◌, atom, Lowest, Collects, Decides, decides_iff, decides_and, decides_not, decides_implies}
use Rattle.answer_sets.proofs.Prelude.{decided_true, and-true, not_both, ext, decides_has, decides_subset, decides_apart, has_lt, lt_of_has, subset_lt}
use Rattle.answer_sets.proofs.Prelude.{subset_le, apart_of_cut, shared_atom, decides_all_in, decides_some, word_has, word_at, Sifts, sifts_keep}
use Rattle.answer_sets.proofs.Prelude.{sifts_drop, arith, MAX_RULES, Program, Body, Satisfies, SatisfiesAll, Kept, ReductModel, AnswerSet, body}
use Rattle.answer_sets.proofs.Prelude.{satisfies, satisfies_all, kept, kept_if, Smaller, some_smaller, answer_set}

module _ (P : Program) where
  pub decides_body : (r M : ℕ) → Decides (Body P r M) (body P r M)
  unfolding body
  decides_body r M =
      decides_iff (λ h. record { positive_up = h.0; rest_holds = h.1 }) (λ h. (h.positive_up, h.rest_holds))
      (decides_and (decides_subset (P.positive r) M) (record { yes = λ e. e; no = λ f e. not_both e f }))

  -- a head atom is up exactly if head and position are not apart
  decides_head : (r M : ℕ) → Decides ((a : ℕ) × Has (P.head r) a × Has M a) (not (apart (P.head r) M))
  decides_head r M =
      decides_iff (λ h. shared_atom (P.head r) M (λ e. h (apart_of_cut (P.head r) M e)))
      (λ s h. h.none s.0 s.1 s.2) (decides_not (decides_apart (P.head r) M))

  pub decides_satisfies : (r M : ℕ) → Decides (Satisfies P r M) (satisfies P r M)
  unfolding satisfies
  decides_satisfies r M =
      decides_iff (λ f. record { head_up = f }) (λ s. s.head_up) (decides_implies (decides_body r M) (decides_head r M))

  -- as the test that was read says
  pub satisfies_said : {r M : ℕ} {b : Bool} → b ≡ satisfies P r M → not b ≡ false → Satisfies P r M
  satisfies_said {r} {M} {b} e f = (decides_satisfies r M).yes (sym e ∙ not-false b f)

  pub satisfies_denied : {r M : ℕ} {b : Bool} → b ≡ satisfies P r M → not b ≡ true → ¬ Satisfies P r M
  satisfies_denied {r} {M} {b} e f = (decides_satisfies r M).no (sym e ∙ not-true b f)

  pub decides_all_satisfied : (which M : ℕ) → which < 2 ^ ATOMS → Decides (SatisfiesAll P which M) (satisfies_all P which M)
  unfolding satisfies_all
  decides_all_satisfied which M fits =
      decides_iff (λ f. record { each = λ r h. f r (has_lt which MAX_RULES fits h) h }) (λ s r l h. s.each r h)
      (decides_all_in MAX_RULES which (λ r. satisfies P r M) (λ r l. decides_satisfies r M))

  -- ---- the reduct

  pub kept_has : (which M r : ℕ) → which < 2 ^ ATOMS → Kept P which M r → Has (kept P which M) r
  unfolding kept
  kept_has which M r fits k =
      word_has MAX_RULES (λ i. has which i && body P i M) r (has_lt which MAX_RULES fits k.numbered)
      ((and-true (has which r) (body P r M)).1 (decided_true (decides_has which r) k.numbered, decided_true (decides_body r M) k.holds))

  pub kept_at : (which M r : ℕ) → Has (kept P which M) r → Kept P which M r
  unfolding kept
  kept_at which M r h =
      let b = (and-true (has which r) (body P r M)).0 (word_at MAX_RULES (λ i. has which i && body P i M) r h).1 in
      record { numbered = (decides_has which r).yes b.0; holds = (decides_body r M).yes b.1 }

  pub kept_collected : {which M word : ℕ} → which < 2 ^ ATOMS → Collects (λ r. Has which r × Body P r M) word → word ≡ kept P which M
  kept_collected {which} {M} {word} fits c =
      ext word (kept P which M)
      (λ r h. let k = c.each r h in kept_has which M r fits (record { numbered = k.0; holds = k.1 }))
      (λ r h. let k = kept_at which M r h in c.all r (k.numbered, k.holds))

  -- a loop over the rules drops r where its body fails
  pub sifts_kept_if : {which word rest rest' word' r M : ℕ} → Sifts (λ i. Body P i M) which word rest → Lowest rest r
      → rest' ≡ rest ∖ atom r → word' ≡ kept_if P r M word → Sifts (λ i. Body P i M) which word' rest'
  unfolding kept_if
  sifts_kept_if {which} {word} {rest} {rest'} {word'} {r} {M} s low e d = go (body P r M) (decides_body r M) d
    where
      go : (b : Bool) → Decides (Body P r M) b → word' ≡ elim b [ true ↦ word | false ↦ word ∖ atom r ]
          → Sifts (λ i. Body P i M) which word' rest'
      go true b q = rw q (sifts_keep s low e (b.yes refl))
      go false b q = sifts_drop s low e q (b.no refl)

  pub kept_fits : (which M : ℕ) → kept P which M < 2 ^ ATOMS
  unfolding kept
  kept_fits which M = lt_of_has (kept P which M) MAX_RULES (λ r h. (word_at MAX_RULES (λ i. has which i && body P i M) r h).0)

  -- a model of the reduct is a position that has the facts and satisfies the word of kept rules
  pub reduct_model : (which facts M N : ℕ) → facts ⊆ N → SatisfiesAll P (kept P which M) N → which < 2 ^ ATOMS
      → ReductModel P which facts M N
  reduct_model which facts M N f s fits =
      record { facts_up = f; each = λ r k. s.each r (kept_has which M r fits k) }

  pub reduct_satisfied : (which facts M N : ℕ) → ReductModel P which facts M N → SatisfiesAll P (kept P which M) N
  reduct_satisfied which facts M N m = record { each = λ r h. m.each r (kept_at which M r h) }

  -- ---- the subset test

  proper_of_less : (N M : ℕ) → N < M → N ⊆ M → N ⊂ M
  proper_of_less N M l f = record { within = f; short = λ g. absurd (omega (arith, subset_le g)) }

  pub decides_smaller : (numbers facts M : ℕ) → numbers < 2 ^ ATOMS
      → Decides (Smaller P numbers facts M) (some_smaller P numbers facts M)
  unfolding some_smaller
  decides_smaller numbers facts M fits =
      decides_iff
      (λ s. record { set = s.0; proper = proper_of_less s.0 M s.1 s.2.0; facts_up = s.2.1.0; satisfied = s.2.1.1 })
      (λ s. (s.set, subset_lt s.proper, (s.proper.within, (s.facts_up, s.satisfied))))
      (decides_some M (λ N. subset N M && (subset facts N && satisfies_all P numbers N))
      (λ N l. decides_and (decides_subset N M) (decides_and (decides_subset facts N) (decides_all_satisfied numbers N fits))))

  -- ---- the answer set

  pub decides_answer_set : (which facts M : ℕ) → which < 2 ^ ATOMS
      → Decides (AnswerSet P which facts M) (answer_set P which facts M)
  unfolding answer_set
  decides_answer_set which facts M fits =
      decides_iff into from
      (decides_and (decides_subset facts M)
      (decides_and (decides_all_satisfied (kept P which M) M (kept_fits which M))
      (decides_not (decides_smaller (kept P which M) facts M (kept_fits which M)))))
    where
      into : (facts ⊆ M) × (SatisfiesAll P (kept P which M) M × ¬ Smaller P (kept P which M) facts M)
          → AnswerSet P which facts M
      into h = record {
        model = reduct_model which facts M M h.0 h.1.0 fits;
        minimal = λ N p m.
            h.1.1
            (record { set = N; proper = p; facts_up = m.facts_up; satisfied = reduct_satisfied which facts M N m });
      }

      from : AnswerSet P which facts M
          → (facts ⊆ M) × (SatisfiesAll P (kept P which M) M × ¬ Smaller P (kept P which M) facts M)
      from a = (
        a.model.facts_up,
        (
          reduct_satisfied which facts M M a.model,
          λ s. a.minimal s.set s.proper (reduct_model which facts M s.set s.facts_up s.satisfied fits),
        ),
      )
