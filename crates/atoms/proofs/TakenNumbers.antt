-- A loop takes the numbers of a word `which`, the lowest first; those of the word `rest` are still to come.
-- What a turn takes is in `which` (taken-lent), and the rest gets smaller (taken-less of Counts).
use Rattle.atoms.proofs.Prelude.{◌≡◌, refl, sym, subst, ◌⊎◌, inl, inr, ℕ, ◌^◌, ◌<◌, ℕ_discrete, Has, ◌⊆◌, ◌∖◌, atom, Lowest, Collects}
use Rattle.atoms.proofs.Sets.{has_dec, has_lt, has_none, has_atom, has_without, without_left, without_right, atom_only, subset_refl}
use Rattle.atoms.proofs.Counts.{taken_within}

-- ---- one number is taken

pub taken_lent : {which rest i : ℕ} → rest ⊆ which → Lowest rest i → Has which i
taken_lent {i = i} f low = f.each i low.here

-- and below n where all numbers of `which` are
pub taken_lt : (n : ℕ) {which rest i : ℕ} → which < 2 ^ n → rest ⊆ which → Lowest rest i → i < n
taken_lt n {which} l f low = has_lt which n l (taken_lent f low)

-- what was to come is to come still, or is the number taken
pub taken_cases : {rest rest' i j : ℕ} → rest' ≡ rest ∖ atom i → Has rest j → Has rest' j ⊎ (i ≡ j)
taken_cases {rest} {rest'} {i} {j} e h = go (ℕ_discrete i j)
  where
    go : Dec (i ≡ j) → Has rest' j ⊎ (i ≡ j)
    go (yes q) = inr q
    go (no n) = inl (subst (λ (w : ℕ). Has w j) (sym e) (has_without rest (atom i) h (λ p. n (atom_only i p))))

-- what is done was done before, or is the number taken
pub done_more : {rest rest' i j : ℕ} → rest' ≡ rest ∖ atom i → ¬ Has rest' j → ¬ Has rest j ⊎ (i ≡ j)
done_more {rest} {rest'} {i} {j} e n = go (has_dec rest j)
  where
    cases : Has rest' j ⊎ (i ≡ j) → ¬ Has rest j ⊎ (i ≡ j)
    cases (inl p) = absurd (n p)
    cases (inr q) = inr q

    go : Dec (Has rest j) → ¬ Has rest j ⊎ (i ≡ j)
    go (yes p) = cases (taken_cases e p)
    go (no p) = inl p

-- ---- the loop does something for each number

pub record Taking (which rest : ℕ) (Done : ℕ → Type 0) : Type 0 where
  pub within : rest ⊆ which
  pub done : (i : ℕ) → Has which i → ¬ Has rest i → Done i

pub taking_start : {which : ℕ} {Done : ℕ → Type 0} → Taking which which Done
taking_start = record { within = subset_refl; done = λ i h n. absurd (n h) }

pub taking_next : {which rest rest' i : ℕ} {Done Done' : ℕ → Type 0} → Taking which rest Done → Lowest rest i → rest' ≡ rest ∖ atom i
    → ((j : ℕ) → Done j → Done' j) → Done' i → Taking which rest' Done'
taking_next {which} {rest} {rest'} {i} {Done} {Done'} t low e f d = record {
  within = taken_within t.within low e;
  done = λ j h n. go j h (done_more e n);
}
  where
    go : (j : ℕ) → Has which j → ¬ Has rest j ⊎ (i ≡ j) → Done' j
    go j h (inl n) = f j (t.done j h n)
    go j h (inr q) = subst Done' q d

-- where what is done stays as it is
pub taking_more : {which rest rest' i : ℕ} {Done : ℕ → Type 0} → Taking which rest Done → Lowest rest i → rest' ≡ rest ∖ atom i → Done i
    → Taking which rest' Done
taking_more t low e d = taking_next t low e (λ j k. k) d

pub taking_end : {which rest : ℕ} {Done : ℕ → Type 0} → Taking which rest Done → rest ≡ 0 → (i : ℕ) → Has which i → Done i
taking_end t e i h = t.done i h (λ p. has_none (subst (λ (w : ℕ). Has w i) e p))

-- ---- the loop carries a fact, which a number of the word carries on

pub record Carrying (which rest : ℕ) (Fact : Type 0) : Type 0 where
  pub within : rest ⊆ which
  pub fact : Fact

pub carrying_start : {which : ℕ} {Fact : Type 0} → Fact → Carrying which which Fact
carrying_start p = record { within = subset_refl; fact = p }

pub carrying_next : {which rest rest' i : ℕ} {Fact Fact' : Type 0} → Carrying which rest Fact → Lowest rest i → rest' ≡ rest ∖ atom i
    → (Has which i → Fact → Fact') → Carrying which rest' Fact'
carrying_next c low e f = record {
  within = taken_within c.within low e;
  fact = f (taken_lent c.within low) c.fact;
}

pub carrying_more : {which rest rest' i : ℕ} {Fact Fact' : Type 0} → Carrying which rest Fact → Lowest rest i → rest' ≡ rest ∖ atom i → Fact'
    → Carrying which rest' Fact'
carrying_more c low e p = carrying_next c low e (λ h f. p)

-- ---- the loop drops from the word those numbers of which K does not hold

pub record Sifts (K : ℕ → Type 0) (which word rest : ℕ) : Type 0 where
  pub within : rest ⊆ which
  pub part : word ⊆ which
  pub tried : (i : ℕ) → Has word i → ¬ Has rest i → K i
  pub kept : (i : ℕ) → Has which i → K i → Has word i

pub sifts_start : {K : ℕ → Type 0} {which : ℕ} → Sifts K which which which
sifts_start = record { within = subset_refl; part = subset_refl; tried = λ i h n. absurd (n h); kept = λ i h k. h }

-- the number stays
pub sifts_keep : {K : ℕ → Type 0} {which word rest rest' i : ℕ} → Sifts K which word rest → Lowest rest i → rest' ≡ rest ∖ atom i
    → K i → Sifts K which word rest'
sifts_keep {K} {which} {word} {rest} {rest'} {i} s low e k = record {
  within = taken_within s.within low e;
  part = s.part;
  tried = λ j h n. go j h (done_more e n);
  kept = s.kept;
}
  where
    go : (j : ℕ) → Has word j → ¬ Has rest j ⊎ (i ≡ j) → K j
    go j h (inl n) = s.tried j h n
    go j h (inr q) = subst K q k

-- the number goes
pub sifts_drop : {K : ℕ → Type 0} {which word rest rest' word' i : ℕ} → Sifts K which word rest → Lowest rest i
    → rest' ≡ rest ∖ atom i → word' ≡ word ∖ atom i → ¬ K i → Sifts K which word' rest'
sifts_drop {K} {which} {word} {rest} {rest'} {word'} {i} s low e d k = record {
  within = taken_within s.within low e;
  part = record { each = λ j h. s.part.each j (without_left word (atom i) (old j h)) };
  tried = λ j h n. go j (old j h) (done_more e n);
  kept = λ j h q. subst (λ (w : ℕ). Has w j) (sym d) (has_without word (atom i) (s.kept j h q) (λ p. k (subst K (sym (atom_only i p)) q)));
}
  where
    old : (j : ℕ) → Has word' j → Has (word ∖ atom i) j
    old j h = subst (λ (w : ℕ). Has w j) d h

    go : (j : ℕ) → Has (word ∖ atom i) j → ¬ Has rest j ⊎ (i ≡ j) → K j
    go j h (inl n) = s.tried j (without_left word (atom i) h) n
    go j h (inr q) = absurd (without_right word (atom i) h (subst (λ (x : ℕ). Has (atom i) x) q (has_atom i)))

pub sifts_end : {K : ℕ → Type 0} {which word rest : ℕ} → Sifts K which word rest → rest ≡ 0 → Collects (λ i. Has which i × K i) word
sifts_end s e = record {
  each = λ i h. (s.part.each i h, s.tried i h (λ p. has_none (subst (λ (w : ℕ). Has w i) e p)));
  all = λ i h. s.kept i h.0 h.1;
}

-- ---- the numbers done as a word, for a fact about several of them together

-- at first none is done
pub none_done : (which : ℕ) {i : ℕ} → ¬ Has (which ∖ which) i
none_done which h = without_right which which h (without_left which which h)

-- and in the end all are
pub all_done : (which rest : ℕ) {i : ℕ} → rest ≡ 0 → Has which i → Has (which ∖ rest) i
all_done which rest {i} e h = has_without which rest h (λ p. has_none (subst (λ (w : ℕ). Has w i) e p))

-- one more is done
pub done_cases : (which rest r : ℕ) {i : ℕ} → Has (which ∖ (rest ∖ atom r)) i → Has (which ∖ rest) i ⊎ (r ≡ i)
done_cases which rest r {i} h = go (done_more refl (without_right which (rest ∖ atom r) h))
  where
    go : ¬ Has rest i ⊎ (r ≡ i) → Has (which ∖ rest) i ⊎ (r ≡ i)
    go (inl n) = inl (has_without which rest (without_left which (rest ∖ atom r) h) n)
    go (inr e) = inr e
