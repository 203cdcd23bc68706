-- The steps by number: what each promises holds of every answer set that has its inputs as facts.
use Rattle.narrowing.proofs.Prelude.{◌≡◌, List, ◌⊎◌, inl, inr, ℕ, ◌^◌, ◌<◌, get_or, ATOMS, Has, ◌⊆◌, ◌∩◌, ◌∪◌, cut_left, union_cases, Satisfies}
use Rattle.narrowing.proofs.Prelude.{SatisfiesAll, lent, Lent, Narrows, State, narrows_for, satisfied, AnswersInputs, Backers, SupportedIfUp}
use Rattle.narrowing.proofs.SupportSteps.{answers_held}

module _ (rules : List ℕ) (which inputs : ℕ) {s t : State} where
  -- an answer set satisfies each rule
  pub satisfying_narrow : Narrows (SatisfiesAll (lent rules) which) s t → Narrows (AnswersInputs rules which inputs) s t
  satisfying_narrow n =
      narrows_for (λ M p. record { each = λ r h. satisfied (lent rules) which (M ∩ inputs) M r p.answer h }) n

  -- and its atoms that are no inputs are held by their backers
  pub support_narrows : (backers : List ℕ) (a : ℕ) → which < 2 ^ ATOMS → Backers rules which backers → ¬ Has inputs a
      → Narrows (SupportedIfUp rules (get_or backers a 0) a) s t → Narrows (AnswersInputs rules which inputs) s t
  support_narrows backers a fits b own n = narrows_for (answers_held rules which inputs backers fits b a own) n

pub rule_narrows : (rules : List ℕ) {which r : ℕ} {s t : State} → Has which r → Narrows (Satisfies (lent rules) r) s t
    → Narrows (SatisfiesAll (lent rules) which) s t
rule_narrows rules h n = narrows_for (λ M k. k.each _ h) n

pub backers_lent : {rules : List ℕ} {which : ℕ} {backers : List ℕ} → Lent rules which → Backers rules which backers → (a : ℕ)
    → Lent rules (get_or backers a 0)
backers_lent l b a = record { each = λ r h. l.each r ((b.numbered a).each r h) }

-- ---- advice: words that stay within another

pub cut_within : (a b : ℕ) {w : ℕ} → w ≡ a ∩ b → w ⊆ a
cut_within a b e = record { each = λ i h. cut_left a b (rw e at h) }

pub union_within : {a b c w : ℕ} → a ⊆ c → w ≡ a ∪ b → b ⊆ c → w ⊆ c
union_within {a} {b} {c} f e g = record { each = λ i h. go i (union_cases a b (rw e at h)) }
  where
    go : (i : ℕ) → Has a i ⊎ Has b i → Has c i
    go i (inl h) = f.each i h
    go i (inr h) = g.each i h
