-- What a loop gathers over the numbers of a word, by what a function answers of each: where some numbers are still to come, and in the end.
use Rattle.dependency_graph.proofs.Prelude.{◌≡◌, refl, sym, ◌∙◌, subst, Bool, true, false, ◌&&◌, ◌⊎◌, inl, inr, ℕ, ◌<◌, ℕ_discrete, Has, Lowest, has, ◌∩◌}
use Rattle.dependency_graph.proofs.Prelude.{◌∪◌, ◌∖◌, atom, below, single_if, union_in, word_below, HoldingOf, UnionOver, word_has, word_at, union_has}
use Rattle.dependency_graph.proofs.Prelude.{union_at, below_lt, cut_left, cut_right, decides_has, has_below, has_cut, has_dec, has_left, has_right}
use Rattle.dependency_graph.proofs.Prelude.{union_cases, has_without, without_left, atom_only, has_none, ext, single_if_has, single_if_at, and-true}
use Rattle.dependency_graph.proofs.Prelude.{decided_true, not_both}

-- ---- the numbers of which a test holds

pub record Holding (answers : ℕ → Bool → Type 0) (which found rest : ℕ) : Type 0 where
  pub coming : (i : ℕ) → Has rest i → Has which i
  pub holds : (i : ℕ) → Has found i → Has which i × answers i true
  pub others : (i : ℕ) → Has which i → ¬ Has rest i → ¬ Has found i → answers i false

pub holding_start : {answers : ℕ → Bool → Type 0} {which rest : ℕ} → rest ≡ which → Holding answers which 0 rest
holding_start {which = which} {rest = rest} e = record {
  coming = λ i h. subst (λ (w : ℕ). Has w i) e h;
  holds = λ i h. absurd (has_none h);
  others = λ i h n m. absurd (n (subst (λ (w : ℕ). Has w i) (sym e) h));
}

-- the next number is one of the word's
pub holding_one : {answers : ℕ → Bool → Type 0} {which found rest i : ℕ} → Holding answers which found rest → Lowest rest i → Has which i
holding_one {i = i} t low = t.coming i low.here

pub holding_next : {answers : ℕ → Bool → Type 0} {which found rest i rest' x found' : ℕ} {b : Bool} → Holding answers which found rest
    → Lowest rest i → rest' ≡ rest ∖ atom i → answers i b → x ≡ single_if b i → found' ≡ found ∪ x → Holding answers which found' rest'
holding_next {answers} {which} {found} {rest} {i} {rest'} {x} {found'} {b} t low e a v u = record {
  coming = λ j h. t.coming j (without_left rest (atom i) (subst (λ (w : ℕ). Has w j) e h));
  holds = λ j h. found_at j (union_cases found x (subst (λ (w : ℕ). Has w j) u h));
  others = λ j h n m. other j h n m (ℕ_discrete i j);
}
  where
    at_one : {j : ℕ} (c : Bool) → c ≡ b → c ≡ true → i ≡ j → answers j true
    at_one c p q r = subst (λ (k : ℕ). answers k true) r (subst (λ (d : Bool). answers i d) (sym p ∙ q) a)

    found_at : (j : ℕ) → Has found j ⊎ Has x j → Has which j × answers j true
    found_at j (inl h) = t.holds j h
    found_at j (inr h) =
        let s = single_if_at b i (subst (λ (w : ℕ). Has w j) v h) in
        (subst (λ (k : ℕ). Has which k) s.1 (t.coming i low.here), at_one b refl s.0 s.1)

    is_false : (c : Bool) → answers i c → (c ≡ true → ⊥) → answers i false
    is_false true p n = absurd (n refl)
    is_false false p n = p

    other : (j : ℕ) → Has which j → ¬ Has rest' j → ¬ Has found' j → Dec (i ≡ j) → answers j false
    other j h n m (yes q) =
        subst (λ (k : ℕ). answers k false) q
        (is_false b a
        (λ p. m (subst (λ (w : ℕ). Has w j) (sym u)
        (has_right found x (subst (λ (k : ℕ). Has x k) q (subst (λ (w : ℕ). Has w i) (sym v) (single_if_has b i p)))))))
    other j h n m (no q) =
        t.others j h
        (λ k. n (subst (λ (w : ℕ). Has w j) (sym e) (has_without rest (atom i) k (λ p. q (atom_only i p)))))
        (λ k. m (subst (λ (w : ℕ). Has w j) (sym u) (has_left found x k)))

pub holding_end : {answers : ℕ → Bool → Type 0} {which found rest : ℕ} → Holding answers which found rest → rest ≡ 0 → HoldingOf answers which found
holding_end t z = record { holds = t.holds; others = λ i h m. t.others i h (λ k. has_none (subst (λ (w : ℕ). Has w i) z k)) m }

-- ---- the union of their words

pub record Joining (answers : ℕ → ℕ → Type 0) (which all rest : ℕ) : Type 0 where
  pub coming : (i : ℕ) → Has rest i → Has which i
  pub from : (a : ℕ) → Has all a → (i : ℕ) × Has which i × ((w : ℕ) × answers i w × Has w a)
  pub each : (i : ℕ) → Has which i → ¬ Has rest i → (w : ℕ) × answers i w × ((a : ℕ) → Has w a → Has all a)

pub joining_start : {answers : ℕ → ℕ → Type 0} {which rest : ℕ} → rest ≡ which → Joining answers which 0 rest
joining_start e = record {
  coming = λ i h. subst (λ (w : ℕ). Has w i) e h;
  from = λ a h. absurd (has_none h);
  each = λ i h n. absurd (n (subst (λ (w : ℕ). Has w i) (sym e) h));
}

pub joining_one : {answers : ℕ → ℕ → Type 0} {which all rest i : ℕ} → Joining answers which all rest → Lowest rest i → Has which i
joining_one {i = i} t low = t.coming i low.here

pub joining_next : {answers : ℕ → ℕ → Type 0} {which all rest i rest' x all' : ℕ} → Joining answers which all rest → Lowest rest i
    → rest' ≡ rest ∖ atom i → answers i x → all' ≡ all ∪ x → Joining answers which all' rest'
joining_next {answers} {which} {all} {rest} {i} {rest'} {x} {all'} t low e p u = record {
  coming = λ j h. t.coming j (without_left rest (atom i) (subst (λ (w : ℕ). Has w j) e h));
  from = λ a h. source a (union_cases all x (subst (λ (w : ℕ). Has w a) u h));
  each = λ j h n. whole j h n (ℕ_discrete i j);
}
  where
    source : (a : ℕ) → Has all a ⊎ Has x a → (j : ℕ) × Has which j × ((w : ℕ) × answers j w × Has w a)
    source a (inl h) = t.from a h
    source a (inr h) = (i, t.coming i low.here, (x, p, h))

    whole : (j : ℕ) → Has which j → ¬ Has rest' j → Dec (i ≡ j) → (w : ℕ) × answers j w × ((a : ℕ) → Has w a → Has all' a)
    whole j h n (yes q) = (
      x,
      subst (λ (k : ℕ). answers k x) q p,
      λ a k. subst (λ (w : ℕ). Has w a) (sym u) (has_right all x k),
    )
    whole j h n (no q) =
        let s =
        t.each j h (λ k. n (subst (λ (w : ℕ). Has w j) (sym e) (has_without rest (atom i) k (λ m. q (atom_only i m))))) in
        (s.0, s.1, λ a k. subst (λ (w : ℕ). Has w a) (sym u) (has_left all x (s.2 a k)))

pub joining_end : {answers : ℕ → ℕ → Type 0} {which all rest : ℕ} → Joining answers which all rest → rest ≡ 0 → UnionOver answers which all
joining_end t z = record { from = t.from; each = λ i h. t.each i h (λ k. has_none (subst (λ (w : ℕ). Has w i) z k)) }

-- ---- numbers below a bound

pub few_below : {n which : ℕ} → which ≡ below n → (i : ℕ) → Has which i → i < n
few_below {n} e i h = below_lt n (subst (λ (w : ℕ). Has w i) e h)

pub few_in : {n first which : ℕ} (w : ℕ) → first ≡ below n → which ≡ w ∩ first → (i : ℕ) → Has which i → i < n
few_in {first = first} w e d i h = few_below e i (cut_right w first (subst (λ (x : ℕ). Has x i) d h))

-- ---- read as the words of the definitions, where the function is known

module _ {answers : ℕ → Bool → Type 0} {which found : ℕ} (t : HoldingOf answers which found) where
  -- the numbers found, by the test p
  found_iff : (p : ℕ → Bool) (i : ℕ) → Has which i → ((b : Bool) → answers i b → b ≡ p i) → p i ≡ true → Has found i
  found_iff p i h f e = go (has_dec found i)
    where
      go : Dec (Has found i) → Has found i
      go (yes k) = k
      go (no n) = absurd (not_both e (sym (f false (t.others i h n))))

  found_holds : (p : ℕ → Bool) (i : ℕ) → ((b : Bool) → answers i b → b ≡ p i) → Has found i → p i ≡ true
  found_holds p i f h = sym (f true (t.holds i h).1)

  -- of all numbers below n
  pub holding_below : {n : ℕ} (p : ℕ → Bool) → which ≡ below n → ((i : ℕ) → i < n → (b : Bool) → answers i b → b ≡ p i) → found ≡ word_below n p
  holding_below {n} p e f = ext found (word_below n p) into from
    where
      into : (i : ℕ) → Has found i → Has (word_below n p) i
      into i h = let l = few_below e i (t.holds i h).0 in word_has n p i l (found_holds p i (f i l) h)

      from : (i : ℕ) → Has (word_below n p) i → Has found i
      from i h =
          let s = word_at n p i h in
          found_iff p i (subst (λ (w : ℕ). Has w i) (sym e) (has_below n i s.0)) (f i s.0) s.1

  -- of a word's numbers below n
  pub holding_in : {n first : ℕ} (w : ℕ) (p : ℕ → Bool) → first ≡ below n → which ≡ w ∩ first
      → ((i : ℕ) → i < n → (b : Bool) → answers i b → b ≡ p i) → found ≡ word_below n (λ i. has w i && p i)
  holding_in {n} {first} w p e d f = ext found (word_below n q) into from
    where
      q : ℕ → Bool
      q i = has w i && p i

      into : (i : ℕ) → Has found i → Has (word_below n q) i
      into i h =
          let k = (t.holds i h).0 in
          word_has n q i (few_in w e d i k)
          ((and-true (has w i) (p i)).1
          (decided_true (decides_has w i) (cut_left w first (subst (λ (x : ℕ). Has x i) d k)), found_holds p i (f i (few_in w e d i k)) h))

      from : (i : ℕ) → Has (word_below n q) i → Has found i
      from i h =
          let s = word_at n q i h in
          let both = (and-true (has w i) (p i)).0 s.1 in
          let k : Has first i = subst (λ (x : ℕ). Has x i) (sym e) (has_below n i s.0) in
          found_iff p i (subst (λ (x : ℕ). Has x i) (sym d) (has_cut w first ((decides_has w i).yes both.0) k)) (f i s.0) both.1

module _ {answers : ℕ → ℕ → Type 0} {which all : ℕ} (t : UnionOver answers which all) where
  -- of the words f i, for a word's numbers i below n
  pub union_over_in : {n first : ℕ} (w : ℕ) (f : ℕ → ℕ) → first ≡ below n → which ≡ w ∩ first
      → ((i : ℕ) → i < n → (x : ℕ) → answers i x → x ≡ f i) → all ≡ union_in n w f
  union_over_in {n} {first} w f e d g = ext all (union_in n w f) into from
    where
      into : (a : ℕ) → Has all a → Has (union_in n w f) a
      into a h =
          let s = t.from a h in
          let l = few_in w e d s.0 s.1 in
          union_has n w f s.0 a l (cut_left w first (subst (λ (x : ℕ). Has x s.0) d s.1))
          (subst (λ (x : ℕ). Has x a) (g s.0 l s.2.0 s.2.1) s.2.2)

      from : (a : ℕ) → Has (union_in n w f) a → Has all a
      from a h =
          let s = union_at n w f a h in
          let k : Has first s.0 = subst (λ (x : ℕ). Has x s.0) (sym e) (has_below n s.0 s.1) in
          let r = t.each s.0 (subst (λ (x : ℕ). Has x s.0) (sym d) (has_cut w first s.2 k)) in
          r.2 a (subst (λ (x : ℕ). Has x a) (sym (g s.0 s.1 r.0 r.1)) s.3)

  -- for all numbers i below n
  pub union_over_below : {n : ℕ} (f : ℕ → ℕ) → which ≡ below n → ((i : ℕ) → i < n → (x : ℕ) → answers i x → x ≡ f i)
      → all ≡ union_in n (below n) f
  union_over_below {n} f e g =
      union_over_in (below n) f refl
      (e ∙ ext (below n) (below n ∩ below n) (λ i h. has_cut (below n) (below n) h h) (λ i h. cut_left (below n) (below n) h)) g
