-- The laws of words that collect the numbers with a property, and of the least number with one.
use Rattle.atoms.proofs.Prelude.{◌≡◌, refl, subst, Bool, true, false, ◌↔◌, ◌⊎◌, inl, inr, ℕ, zero, suc, ◌≤◌, ◌<◌, arith, dec_lt, ATOMS, Has, has, ◌∩◌}
use Rattle.atoms.proofs.Prelude.{◌∪◌, ◌∖◌, below, outside, Lowest, Decides, word_below, union_in, Collects, Least, lowest, lowest_of}
use Rattle.atoms.proofs.Tests.{decided_true, decided_false, not_both}
use Rattle.atoms.proofs.Sets.{decides_has, has_dec, has_cut, cut_left, cut_right, has_left, has_right, union_cases, has_without, without_left}
use Rattle.atoms.proofs.Sets.{without_right, has_none, has_below, below_lt, has_outside, outside_lt, outside_lacks, ext, empty, some_atom}
use Rattle.atoms.proofs.Bounded.{union_has, union_at, word_has, word_at}

-- ---- what a word that collects K says of K

-- it is empty exactly if K holds of nothing
pub collects_none : {K : ℕ → Type 0} {w : ℕ} → Collects K w → (w ≡ 0) ↔ ((a : ℕ) → ¬ K a)
collects_none {w = w} c = (
  λ e a k. has_none (subst (λ (x : ℕ). Has x a) e (c.all a k)),
  λ n. empty w (λ a h. n a (c.each a h)),
)

pub collects_some : {K : ℕ → Type 0} {w : ℕ} → Collects K w → ¬ (w ≡ 0) → (a : ℕ) × K a
collects_some {w = w} c n = let s = some_atom w n in (s.0, c.each s.0 s.1)

pub collects_dec : {K : ℕ → Type 0} {w : ℕ} → Collects K w → (a : ℕ) → Dec (K a)
collects_dec {K} {w} c a = go (has_dec w a)
  where
    go : Dec (Has w a) → Dec (K a)
    go (yes h) = yes (c.each a h)
    go (no n) = no (λ k. n (c.all a k))

pub collects_same : {K : ℕ → Type 0} {v w : ℕ} → Collects K v → Collects K w → v ≡ w
collects_same {v = v} {w = w} c d = ext v w (λ a h. d.all a (c.each a h)) (λ a h. c.all a (d.each a h))

-- its lowest atom is the least number with K
pub collects_least : {K : ℕ → Type 0} {w r : ℕ} → Collects K w → Lowest w r → Least K r
collects_least {r = r} c low = record { here = c.each r low.here; least = λ q l k. low.least q l (c.all q k) }

pub least_same : {P : ℕ → Type 0} {q r : ℕ} → Least P q → Least P r → q ≡ r
least_same {P} {q} {r} a b = go (dec_lt q r) (dec_lt r q)
  where
    go : Dec (q < r) → Dec (r < q) → q ≡ r
    go (yes l) d = absurd (b.least q l a.here)
    go (no l) (yes k) = absurd (a.least r k b.here)
    go (no l) (no k) = omega arith

-- ---- which words collect what

pub collects_iff : {K J : ℕ → Type 0} {w : ℕ} → ((a : ℕ) → K a → J a) → ((a : ℕ) → J a → K a) → Collects K w → Collects J w
collects_iff f g c = record { each = λ a h. f a (c.each a h); all = λ a j. c.all a (g a j) }

pub collects_has : (w : ℕ) → Collects (Has w) w
collects_has w = record { each = λ a h. h; all = λ a h. h }

pub collects_below : (n : ℕ) → Collects (λ a. a < n) (below n)
collects_below n = record { each = λ a h. below_lt n h; all = λ a l. has_below n a l }

pub collects_word : (n : ℕ) (p : ℕ → Bool) {P : ℕ → Type 0} → ((a : ℕ) → a < n → Decides (P a) (p a))
    → Collects (λ a. (a < n) × P a) (word_below n p)
collects_word n p d = record {
  each = λ a h. let s = word_at n p a h in (s.0, (d a s.0).yes s.1);
  all = λ a k. word_has n p a k.0 (decided_true (d a k.0) k.1);
}

pub collects_cut : {K J : ℕ → Type 0} {v w : ℕ} → Collects K v → Collects J w → Collects (λ a. K a × J a) (v ∩ w)
collects_cut {v = v} {w = w} c d = record {
  each = λ a h. (c.each a (cut_left v w h), d.each a (cut_right v w h));
  all = λ a k. has_cut v w (c.all a k.0) (d.all a k.1);
}

pub collects_union : {K J : ℕ → Type 0} {v w : ℕ} → Collects K v → Collects J w → Collects (λ a. K a ⊎ J a) (v ∪ w)
collects_union {K} {J} {v} {w} c d = record { each = λ a h. from a (union_cases v w h); all = into }
  where
    from : (a : ℕ) → Has v a ⊎ Has w a → K a ⊎ J a
    from a (inl h) = inl (c.each a h)
    from a (inr h) = inr (d.each a h)

    into : (a : ℕ) → K a ⊎ J a → Has (v ∪ w) a
    into a (inl k) = has_left v w (c.all a k)
    into a (inr k) = has_right v w (d.all a k)

pub collects_without : {K J : ℕ → Type 0} {v w : ℕ} → Collects K v → Collects J w → Collects (λ a. K a × ¬ J a) (v ∖ w)
collects_without {v = v} {w = w} c d = record {
  each = λ a h. (c.each a (without_left v w h), λ j. without_right v w h (d.all a j));
  all = λ a k. has_without v w (c.all a k.0) (λ h. k.1 (d.each a h));
}

pub collects_outside : {K : ℕ → Type 0} {w : ℕ} → Collects K w → Collects (λ a. (a < ATOMS) × ¬ K a) (outside w)
collects_outside {w = w} c = record {
  each = λ a h. (outside_lt w h, λ k. outside_lacks w h (c.all a k));
  all = λ a k. has_outside w k.0 (λ h. k.1 (c.each a h));
}

-- of the words f i, for the numbers i below n that are in w, each of which collects K i
pub collects_union_in : (n w : ℕ) (f : ℕ → ℕ) {K : ℕ → ℕ → Type 0} → ((i : ℕ) → i < n → Collects (K i) (f i))
    → Collects (λ a. (i : ℕ) × (i < n) × Has w i × K i a) (union_in n w f)
collects_union_in n w f c = record {
  each = λ a h. let s = union_at n w f a h in (s.0, s.1, s.2, (c s.0 s.1).each a s.3);
  all = λ a k. union_has n w f k.0 a k.1 k.2 ((c k.0 k.1).all a k.3);
}

-- ---- the lowest number below a bound of which a test holds

pub lowest_le : (n : ℕ) (p : ℕ → Bool) → lowest n p ≤ n
unfolding lowest
lowest_le zero p = omega arith
lowest_le (suc n) p = go (p 0) (lowest_le n (λ i. p (suc i)))
  where
    go : (b : Bool) → lowest n (λ i. p (suc i)) ≤ n
        → (elim b [ true ↦ zero | false ↦ suc (lowest n (λ i. p (suc i))) ]) ≤ suc n
    go true l = omega arith
    go false l = omega arith

pub lowest_here : (n : ℕ) (p : ℕ → Bool) → lowest n p < n → p (lowest n p) ≡ true
unfolding lowest
lowest_here zero p l = absurd (omega arith)
lowest_here (suc n) p l = go (p 0) refl (lowest_here n (λ i. p (suc i))) l
  where
    go : (b : Bool) → p 0 ≡ b → (lowest n (λ i. p (suc i)) < n → p (suc (lowest n (λ i. p (suc i)))) ≡ true)
        → (elim b [ true ↦ zero | false ↦ suc (lowest n (λ i. p (suc i))) ]) < suc n
        → p (elim b [ true ↦ zero | false ↦ suc (lowest n (λ i. p (suc i))) ]) ≡ true
    go true e rest k = e
    go false e rest k = rest (omega arith)

pub lowest_least : (n : ℕ) (p : ℕ → Bool) (j : ℕ) → j < lowest n p → p j ≡ false
unfolding lowest
lowest_least zero p j l = absurd (omega arith)
lowest_least (suc n) p j l = go (p 0) refl j (λ i. lowest_least n (λ k. p (suc k)) i) l
  where
    go : (b : Bool) → p 0 ≡ b → (k : ℕ) → ((i : ℕ) → i < lowest n (λ i. p (suc i)) → p (suc i) ≡ false)
        → k < (elim b [ true ↦ zero | false ↦ suc (lowest n (λ i. p (suc i))) ]) → p k ≡ false
    go true e k rest q = absurd (omega arith)
    go false e zero rest q = e
    go false e (suc k) rest q = rest k (omega arith)

-- the first number below n that the test holds of is the lowest
pub lowest_is : (n : ℕ) (p : ℕ → Bool) (i : ℕ) → i < n → p i ≡ true → ((j : ℕ) → j < i → p j ≡ false) → lowest n p ≡ i
lowest_is n p i l e f = go (dec_lt (lowest n p) i) (dec_lt i (lowest n p))
  where
    go : Dec (lowest n p < i) → Dec (i < lowest n p) → lowest n p ≡ i
    go (yes k) d = absurd (not_both (lowest_here n p (omega arith)) (f (lowest n p) k))
    go (no k) (yes m) = absurd (not_both e (lowest_least n p i m))
    go (no k) (no m) = omega arith

pub lowest_none : (n : ℕ) (p : ℕ → Bool) → ((j : ℕ) → j < n → p j ≡ false) → lowest n p ≡ n
lowest_none n p f = go (dec_lt (lowest n p) n)
  where
    go : Dec (lowest n p < n) → lowest n p ≡ n
    go (yes k) = absurd (not_both (lowest_here n p k) (f (lowest n p) k))
    go (no k) = let l : lowest n p ≤ n = lowest_le n p in omega arith

-- where no number is left, none passed the test
pub lowest_none_at : (n : ℕ) (p : ℕ → Bool) → lowest n p ≡ n → (j : ℕ) → j < n → p j ≡ false
lowest_none_at n p e j l = lowest_least n p j (omega arith)

-- ---- the lowest atom of a word

pub lowest_of_lem : (w r : ℕ) → Lowest w r → r < ATOMS → lowest_of w ≡ r
unfolding lowest_of
lowest_of_lem w r l k =
    lowest_is ATOMS (has w) r k (decided_true (decides_has w r) l.here) (λ j m. decided_false (decides_has w j) (l.least j m))

pub lowest_of_lowest : (w i : ℕ) → Has w i → i < ATOMS → Lowest w (lowest_of w)
unfolding lowest_of
lowest_of_lowest w i h l = go (dec_lt (lowest ATOMS (has w)) ATOMS)
  where
    go : Dec (lowest ATOMS (has w) < ATOMS) → Lowest w (lowest ATOMS (has w))
    go (yes k) = record {
      here = (decides_has w (lowest ATOMS (has w))).yes (lowest_here ATOMS (has w) k);
      least = λ j m. (decides_has w j).no (lowest_least ATOMS (has w) j m);
    }
    go (no k) = absurd ((decides_has w i).no (lowest_least ATOMS (has w) i (omega arith)) h)

-- the lowest atom of a word that collects K, where K holds of atoms alone
pub collects_lowest_of : {K : ℕ → Type 0} {w : ℕ} → Collects K w → ((a : ℕ) → K a → a < ATOMS) → ¬ (w ≡ 0) → Least K (lowest_of w)
collects_lowest_of {w = w} c small n =
    let s = collects_some c n in
    collects_least c (lowest_of_lowest w s.0 (c.all s.0 s.1) (small s.0 s.1))
