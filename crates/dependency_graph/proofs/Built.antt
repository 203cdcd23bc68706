-- Words that a loop builds number by number, up to a bound.
use Rattle.dependency_graph.proofs.Prelude.{◌≡◌, refl, sym, ap, ◌∙◌, Bool, ℕ, suc, ◌+◌, ◌≤◌, ◌<◌, arith, add-one, ◌∩◌, ◌∪◌, word_below, union_in}
use Rattle.dependency_graph.proofs.Prelude.{ext, word_has, word_at, union_below, twice_below}
use Rattle.dependency_graph.proofs.Offenders.{union_below_suc}

-- of n numbers the first i are done, and w is what they make
pub record Built (F : ℕ → ℕ) (n i w : ℕ) : Type 0 where
  pub within : i ≤ n
  pub is : w ≡ F i

built_start : {F : ℕ → ℕ} {n : ℕ} → 0 ≡ F 0 → Built F n 0 0
built_start e = record { within = omega arith; is = e }

built_more : {F : ℕ → ℕ} {n i w : ℕ} → i < n → w ≡ F (suc i) → Built F n (i + 1) w
built_more {F} {n} {i} l e = record { within = omega arith; is = e ∙ ap F (sym (add-one i)) }

pub built_end : {F : ℕ → ℕ} {n i w : ℕ} → Built F n i w → n ≤ i → w ≡ F n
built_end {F} {n} {i} b l = let q : i ≡ n = omega (arith, b.within) in b.is ∙ ap F q

-- ---- the numbers of which the test p holds

pub word_same : (n : ℕ) (p q : ℕ → Bool) → ((i : ℕ) → i < n → p i ≡ q i) → word_below n p ≡ word_below n q
word_same n p q e =
    ext (word_below n p) (word_below n q)
    (λ a h. let s = word_at n p a h in word_has n q a s.0 (sym (e a s.0) ∙ s.1))
    (λ a h. let s = word_at n q a h in word_has n p a s.0 (e a s.0 ∙ s.1))

-- ---- the union of the words f i

pub union_start : (f : ℕ → ℕ) {n : ℕ} → Built (λ k. union_below k f) n 0 0
unfolding union_in
union_start f = built_start refl

pub union_more : (f : ℕ → ℕ) {n i w x w' : ℕ} → Built (λ k. union_below k f) n i w → i < n → x ≡ f i → w' ≡ w ∪ x
    → Built (λ k. union_below k f) n (i + 1) w'
union_more f {n} {i} {x = x} b l d e =
    built_more l (e ∙ ap (λ (y : ℕ). y ∪ x) b.is ∙ ap (λ (y : ℕ). union_below i f ∪ y) d ∙ sym (union_below_suc i f))

-- ---- what is in more than one of them

pub twice_start : (f : ℕ → ℕ) {n : ℕ} → Built (λ k. twice_below k f) n 0 0
unfolding twice_below
twice_start f = built_start refl

pub twice_more : (f : ℕ → ℕ) {n i o t c t' : ℕ} → Built (λ k. union_below k f) n i o → Built (λ k. twice_below k f) n i t → i < n
    → c ≡ o ∩ f i → t' ≡ t ∪ c → Built (λ k. twice_below k f) n (i + 1) t'
unfolding twice_below
twice_more f {n} {i} {c = c} o t l d e =
    built_more l
    (e ∙ ap (λ (y : ℕ). y ∪ c) t.is ∙ ap (λ (y : ℕ). twice_below i f ∪ y) (d ∙ ap (λ (y : ℕ). y ∩ f i) o.is))
