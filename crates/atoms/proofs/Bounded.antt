-- The laws of "each" and "some" below a bound, of "each in a word", and of the word of those of which a test holds.
use Rattle.atoms.proofs.Prelude.{◌≡◌, refl, sym, ap, ◌∙◌, subst, Bool, true, false, not, ◌||◌, ◌⊎◌, inl, inr, ℕ, zero, suc, ◌<◌, arith, ℕ_discrete}
use Rattle.atoms.proofs.Prelude.{Has, has, ◌∩◌, ◌∪◌, ◌∖◌, atom, below, Decides, all_below, some_below, all_in, word_below, union_in}
use Rattle.atoms.proofs.Tests.{decides, decided_true, false_of_not_true, not_both, bool_ext, implies_true}
use Rattle.atoms.proofs.Sets.{decides_has, has_cut, cut_left, has_left, has_right, union_cases, has_without, without_left, has_atom, atom_only}
use Rattle.atoms.proofs.Sets.{has_none, has_below, ext, empty}

-- ---- each

pub all-at : (n : ℕ) (p : ℕ → Bool) → all_below n p ≡ true → (i : ℕ) → i < n → p i ≡ true
unfolding all_below
all-at zero p e i l = absurd (omega arith)
all-at (suc n) p e i l = go (p n) refl e (λ t. all-at n p t i) (ℕ_discrete i n)
  where
    go : (b : Bool) → p n ≡ b → (elim b [ true ↦ all_below n p | false ↦ false ]) ≡ true
        → (all_below n p ≡ true → i < n → p i ≡ true) → Dec (i ≡ n) → p i ≡ true
    go true q h rest (yes e) = ap p e ∙ q
    go true q h rest (no e) = rest h (omega arith)
    go false q h rest d = absurd (not_both h refl)

pub all_intro : (n : ℕ) (p : ℕ → Bool) → ((i : ℕ) → i < n → p i ≡ true) → all_below n p ≡ true
unfolding all_below
all_intro zero p h = refl
all_intro (suc n) p h = rw (h n (omega arith), all_below) (all_intro n p (λ i l. h i (omega arith)))

-- ---- some

pub some_at : (n : ℕ) (p : ℕ → Bool) → some_below n p ≡ true → (i : ℕ) × (i < n) × (p i ≡ true)
unfolding some_below
some_at zero p e = absurd (not_both e refl)
some_at (suc n) p e = go (p n) refl e (some_at n p)
  where
    go : (b : Bool) → p n ≡ b → (elim b [ true ↦ true | false ↦ some_below n p ]) ≡ true
        → (some_below n p ≡ true → (i : ℕ) × (i < n) × (p i ≡ true)) → (i : ℕ) × (i < suc n) × (p i ≡ true)
    go true q h rest = (n, omega arith, q)
    go false q h rest = let r = rest h in (r.0, omega (arith, r.1), r.2)

pub some_intro : (n : ℕ) (p : ℕ → Bool) (i : ℕ) → i < n → p i ≡ true → some_below n p ≡ true
unfolding some_below
some_intro zero p i l e = absurd (omega arith)
some_intro (suc n) p i l e = go (p n) refl (λ l'. some_intro n p i l' e) (ℕ_discrete i n)
  where
    go : (b : Bool) → p n ≡ b → (i < n → some_below n p ≡ true) → Dec (i ≡ n)
        → (elim b [ true ↦ true | false ↦ some_below n p ]) ≡ true
    go true q rest d = refl
    go false q rest (yes j) = absurd (not_both (ap p (sym j) ∙ e) q)
    go false q rest (no j) = rest (omega arith)

-- no number below n passes the test
pub some_none : (n : ℕ) (p : ℕ → Bool) → ((i : ℕ) → i < n → ¬ (p i ≡ true)) → some_below n p ≡ false
some_none n p h = false_of_not_true (some_below n p) (λ e. let s = some_at n p e in h s.0 s.1 s.2)

-- ---- as tests of statements

pub decides_all : (n : ℕ) (p : ℕ → Bool) {P : ℕ → Type 0} → ((i : ℕ) → i < n → Decides (P i) (p i))
    → Decides ((i : ℕ) → i < n → P i) (all_below n p)
decides_all n p d =
    decides (all_below n p) (λ e i l. (d i l).yes (all-at n p e i l))
    (λ f. all_intro n p (λ i l. decided_true (d i l) (f i l)))

pub decides_some : (n : ℕ) (p : ℕ → Bool) {P : ℕ → Type 0} → ((i : ℕ) → i < n → Decides (P i) (p i))
    → Decides ((i : ℕ) × (i < n) × P i) (some_below n p)
decides_some n p d =
    decides (some_below n p) (λ e. let s = some_at n p e in (s.0, s.1, (d s.0 s.1).yes s.2))
    (λ s. some_intro n p s.0 s.1 (decided_true (d s.0 s.1) s.2))

-- ---- each in a word

pub all_in_at : (n w : ℕ) (p : ℕ → Bool) → all_in n w p ≡ true → (i : ℕ) → i < n → Has w i → p i ≡ true
all_in_at n w p e i l h = (implies_true (has w i) (p i)).0 (all-at n (λ j. not (has w j) || p j) e i l) (decided_true (decides_has w i) h)

pub all_in_intro : (n w : ℕ) (p : ℕ → Bool) → ((i : ℕ) → i < n → Has w i → p i ≡ true) → all_in n w p ≡ true
all_in_intro n w p f =
    all_intro n (λ j. not (has w j) || p j) (λ i l. (implies_true (has w i) (p i)).1 (λ e. f i l ((decides_has w i).yes e)))

-- one of them fails
pub all_in_fails : (n w : ℕ) (p : ℕ → Bool) (i : ℕ) → i < n → Has w i → p i ≡ false → all_in n w p ≡ false
all_in_fails n w p i l h e = false_of_not_true (all_in n w p) (λ t. not_both (all_in_at n w p t i l h) e)

pub decides_all_in : (n w : ℕ) (p : ℕ → Bool) {P : ℕ → Type 0} → ((i : ℕ) → i < n → Decides (P i) (p i))
    → Decides ((i : ℕ) → i < n → Has w i → P i) (all_in n w p)
decides_all_in n w p d =
    decides (all_in n w p) (λ e i l h. (d i l).yes (all_in_at n w p e i l h))
    (λ f. all_in_intro n w p (λ i l h. decided_true (d i l) (f i l h)))

-- words with the same members below n are alike
pub all_in_same : (n v w : ℕ) (p : ℕ → Bool) → ((i : ℕ) → i < n → Has v i → Has w i)
    → ((i : ℕ) → i < n → Has w i → Has v i) → all_in n v p ≡ all_in n w p
all_in_same n v w p f g =
    bool_ext (all_in n v p) (all_in n w p)
    (λ e. all_in_intro n w p (λ i l h. all_in_at n v p e i l (g i l h)))
    (λ e. all_in_intro n v p (λ i l h. all_in_at n w p e i l (f i l h)))

-- "bits with no rule are ignored"
pub all_in_cut : (n w : ℕ) (p : ℕ → Bool) → all_in n (w ∩ below n) p ≡ all_in n w p
all_in_cut n w p =
    all_in_same n (w ∩ below n) w p (λ i l h. cut_left w (below n) h) (λ i l h. has_cut w (below n) h (has_below n i l))

pub all_in_none : (n : ℕ) (p : ℕ → Bool) → all_in n 0 p ≡ true
all_in_none n p = all_in_intro n 0 p (λ i l h. absurd (has_none h))

-- ---- the word of those of which a test holds

pub word_has : (n : ℕ) (p : ℕ → Bool) (i : ℕ) → i < n → p i ≡ true → Has (word_below n p) i
unfolding word_below
word_has zero p i l e = absurd (omega arith)
word_has (suc n) p i l e = go (p n) refl (λ l'. word_has n p i l' e) (ℕ_discrete i n)
  where
    go : (b : Bool) → p n ≡ b → (i < n → Has (word_below n p) i) → Dec (i ≡ n)
        → Has (elim b [ true ↦ word_below n p ∪ atom n | false ↦ word_below n p ]) i
    go true q rest (yes j) = has_right (word_below n p) (atom n) (subst (λ (x : ℕ). Has (atom n) x) (sym j) (has_atom n))
    go true q rest (no j) = has_left (word_below n p) (atom n) (rest (omega arith))
    go false q rest (yes j) = absurd (not_both (ap p (sym j) ∙ e) q)
    go false q rest (no j) = rest (omega arith)

pub word_at : (n : ℕ) (p : ℕ → Bool) (i : ℕ) → Has (word_below n p) i → (i < n) × (p i ≡ true)
unfolding word_below
word_at zero p i h = absurd (has_none h)
word_at (suc n) p i h = go (p n) refl h (word_at n p i)
  where
    found : p n ≡ true → (Has (word_below n p) i → (i < n) × (p i ≡ true)) → Has (word_below n p) i ⊎ Has (atom n) i
        → (i < suc n) × (p i ≡ true)
    found q rest (inl k) = let r = rest k in (omega (arith, r.0), r.1)
    found q rest (inr k) = let e : n ≡ i = atom_only n k in (omega arith, ap p (sym e) ∙ q)

    go : (b : Bool) → p n ≡ b → Has (elim b [ true ↦ word_below n p ∪ atom n | false ↦ word_below n p ]) i
        → (Has (word_below n p) i → (i < n) × (p i ≡ true)) → (i < suc n) × (p i ≡ true)
    go true q k rest = found q rest (union_cases (word_below n p) (atom n) k)
    go false q k rest = let r = rest k in (omega (arith, r.0), r.1)

-- ---- the union of words by number

pub union_has : (n w : ℕ) (f : ℕ → ℕ) (i a : ℕ) → i < n → Has w i → Has (f i) a → Has (union_in n w f) a
unfolding union_in
union_has zero w f i a l h k = absurd (omega arith)
union_has (suc n) w f i a l h k = go (has w n) refl (λ l'. union_has n w f i a l' h k) (ℕ_discrete i n)
  where
    go : (b : Bool) → has w n ≡ b → (i < n → Has (union_in n w f) a) → Dec (i ≡ n)
        → Has (elim b [ true ↦ union_in n w f ∪ f n | false ↦ union_in n w f ]) a
    go true q rest (yes e) = has_right (union_in n w f) (f n) (subst (λ (x : ℕ). Has (f x) a) e k)
    go true q rest (no e) = has_left (union_in n w f) (f n) (rest (omega arith))
    go false q rest (yes e) = absurd ((decides_has w n).no q (subst (λ (x : ℕ). Has w x) e h))
    go false q rest (no e) = rest (omega arith)

pub union_at : (n w : ℕ) (f : ℕ → ℕ) (a : ℕ) → Has (union_in n w f) a → (i : ℕ) × (i < n) × Has w i × Has (f i) a
unfolding union_in
union_at zero w f a h = absurd (has_none h)
union_at (suc n) w f a h = go (has w n) refl h (union_at n w f a)
  where
    front : (Has (union_in n w f) a → (i : ℕ) × (i < n) × Has w i × Has (f i) a) → Has (union_in n w f) a
        → (i : ℕ) × (i < suc n) × Has w i × Has (f i) a
    front rest k = let r = rest k in (r.0, omega (arith, r.1), r.2, r.3)

    cases : has w n ≡ true → (Has (union_in n w f) a → (i : ℕ) × (i < n) × Has w i × Has (f i) a)
        → Has (union_in n w f) a ⊎ Has (f n) a → (i : ℕ) × (i < suc n) × Has w i × Has (f i) a
    cases q rest (inl k) = front rest k
    cases q rest (inr k) = (n, omega arith, (decides_has w n).yes q, k)

    go : (b : Bool) → has w n ≡ b → Has (elim b [ true ↦ union_in n w f ∪ f n | false ↦ union_in n w f ]) a
        → (Has (union_in n w f) a → (i : ℕ) × (i < n) × Has w i × Has (f i) a)
        → (i : ℕ) × (i < suc n) × Has w i × Has (f i) a
    go true q k rest = cases q rest (union_cases (union_in n w f) (f n) k)
    go false q k rest = front rest k

pub union_in_none : (n : ℕ) (f : ℕ → ℕ) → union_in n 0 f ≡ 0
union_in_none n f = empty (union_in n 0 f) (λ i p. has_none (union_at n 0 f i p).2)

-- numbers from n on play no part
pub union_in_cut : (n w : ℕ) (f : ℕ → ℕ) → union_in n (w ∩ below n) f ≡ union_in n w f
union_in_cut n w f =
    ext (union_in n (w ∩ below n) f) (union_in n w f)
    (λ a p. let s = union_at n (w ∩ below n) f a p in union_has n w f s.0 a s.1 (cut_left w (below n) s.2) s.3)
    (λ a p. let s = union_at n w f a p in union_has n (w ∩ below n) f s.0 a s.1 (has_cut w (below n) s.2 (has_below n s.0 s.1)) s.3)

-- one number is taken, and then the rest
pub union_in_take : (n w : ℕ) (f : ℕ → ℕ) (i : ℕ) → i < n → Has w i → union_in n w f ≡ f i ∪ union_in n (w ∖ atom i) f
union_in_take n w f i l h =
    ext (union_in n w f) (f i ∪ union_in n (w ∖ atom i) f)
    (λ a p. let s = union_at n w f a p in into a s.0 s.1 s.2 s.3 (ℕ_discrete i s.0))
    (λ a p. from a (union_cases (f i) (union_in n (w ∖ atom i) f) p))
  where
    into : (a j : ℕ) → j < n → Has w j → Has (f j) a → Dec (i ≡ j) → Has (f i ∪ union_in n (w ∖ atom i) f) a
    into a j k q r (yes e) = has_left (f i) (union_in n (w ∖ atom i) f) (subst (λ (x : ℕ). Has (f x) a) (sym e) r)
    into a j k q r (no e) =
        has_right (f i) (union_in n (w ∖ atom i) f)
        (union_has n (w ∖ atom i) f j a k (has_without w (atom i) q (λ t. e (atom_only i t))) r)

    from : (a : ℕ) → Has (f i) a ⊎ Has (union_in n (w ∖ atom i) f) a → Has (union_in n w f) a
    from a (inl p) = union_has n w f i a l h p
    from a (inr p) =
        let s = union_at n (w ∖ atom i) f a p in
        union_has n w f s.0 a s.1 (without_left w (atom i) s.2) s.3

-- the words may be given otherwise
pub union_in_same : (n w : ℕ) (f g : ℕ → ℕ) → ((i : ℕ) → i < n → f i ≡ g i) → union_in n w f ≡ union_in n w g
union_in_same n w f g e =
    ext (union_in n w f) (union_in n w g)
    (λ a p. let s = union_at n w f a p in union_has n w g s.0 a s.1 s.2 (subst (λ (x : ℕ). Has x a) (e s.0 s.1) s.3))
    (λ a p. let s = union_at n w g a p in union_has n w f s.0 a s.1 s.2 (subst (λ (x : ℕ). Has x a) (sym (e s.0 s.1)) s.3))
