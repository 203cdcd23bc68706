-- Sperner's theorem: a family of sets over n atoms, none within another, has at most as many sets as the middle binomial coefficient of n says. One chain
-- is followed along the atoms, and the family is split with it: the sets over a chain are those over the two chains that come of it with one atom more.
use Rattle.antichains.proofs.Prelude.{◌≡◌, refl, sym, ap, subst, ◌⊎◌, inl, inr, List, [], ◌∷◌, List-as-Memᴰ, Memᴰ-head, Memᴰ-tail}
use Rattle.antichains.proofs.Prelude.{Memᴰ-not-nil, Memᴰ-cases_cons, Memᴰ-cast, ℕ, zero, suc, ◌+◌, ◌≤◌, arith, ℕ_discrete, length}
use Rattle.antichains.proofs.Prelude.{length-map, ones, Has, ◌⊆◌, ◌∪◌, ◌∖◌, atom, ext, empty, some_atom, has_none, has_without, without_left}
use Rattle.antichains.proofs.Prelude.{without_right, Incomparable, Antichain, antichain_nil, antichain_cons, binomial, middle_binomial}
use Rattle.atoms.proofs.Counts.{count_without}
use Rattle.antichains.proofs.Counting.{chains, chains_next, chains_some, chains_middle}
use Rattle.antichains.proofs.Chains.{Chain, chain_nil, chain_cons, comparable, taller, shorter, taller_chain, shorter_chain, taller_or_shorter}

-- ---- a family in two parts

-- G has sets of F, of which P holds
record Part (P : ℕ → Type 0) (F G : List ℕ) : Type 0 where
  antichain : Antichain G
  each : (M : ℕ) → List-as-Memᴰ M G → List-as-Memᴰ M F × P M

record Parted (P Q : ℕ → Type 0) (F : List ℕ) : Type 0 where
  left : List ℕ
  right : List ℕ
  counted : length F ≡ length left + length right
  of_left : Part P F left
  of_right : Part Q F right

none : (P : ℕ → Type 0) → Part P [] []
none P = record { antichain = antichain_nil; each = λ M m. absurd (Memᴰ-not-nil m) }

more : {P : ℕ → Type 0} {F G : List ℕ} (M : ℕ) → Part P F G → Part P (M ∷ F) G
more M p = record { antichain = p.antichain; each = λ N m. let t = p.each N m in (Memᴰ-tail t.0, t.1) }

taken : {P : ℕ → Type 0} {F G : List ℕ} (M : ℕ) → ((N : ℕ) → List-as-Memᴰ N F → Incomparable M N) → P M → Part P F G → Part P (M ∷ F) (M ∷ G)
taken {P} {F} {G} M n h p =
    record { antichain = antichain_cons (λ N m. n N (p.each N m).0) p.antichain; each = λ N m. go N (Memᴰ-cases_cons m) }
  where
    go : (N : ℕ) → (N ≡ M) ⊎ List-as-Memᴰ N G → List-as-Memᴰ N (M ∷ F) × P N
    go N (inl e) = (Memᴰ-head e, subst P (sym e) h)
    go N (inr m) = (more M p).each N m

parted : {P Q : ℕ → Type 0} {F : List ℕ} → Antichain F → ((M : ℕ) → List-as-Memᴰ M F → P M ⊎ Q M) → Parted P Q F
parted {P} {Q} antichain_nil f = record { left = []; right = []; counted = refl; of_left = none P; of_right = none Q }
parted {P} {Q} (antichain_cons {M = M} {family = F} n a) f = go (f M (Memᴰ-head refl)) (parted a (λ N m. f N (Memᴰ-tail m)))
  where
    go : P M ⊎ Q M → Parted P Q F → Parted P Q (M ∷ F)
    go (inl h) s = record {
      left = M ∷ s.left;
      right = s.right;
      counted = omega (arith, s.counted);
      of_left = taken M n h s.of_left;
      of_right = more M s.of_right;
    }
    go (inr h) s = record {
      left = s.left;
      right = M ∷ s.right;
      counted = omega (arith, s.counted);
      of_left = more M s.of_left;
      of_right = taken M n h s.of_right;
    }

-- ---- over a chain

-- what each set of the family has outside W is in the chain
abbrev Over : ℕ → List ℕ → List ℕ → Type 0
Over W chain family = (M : ℕ) → List-as-Memᴰ M family → List-as-Memᴰ (M ∖ W) chain

over_none : (W : ℕ) (family : List ℕ) → Over W [] family → length family ≡ 0
over_none W [] over = refl
over_none W (M ∷ family) over = absurd (Memᴰ-not-nil (over M (Memᴰ-head refl)))

-- a chain has at most one set of the family
one_of_chain : {chain family : List ℕ} → Chain chain → Antichain family → ((M : ℕ) → List-as-Memᴰ M family → List-as-Memᴰ M chain) → length family ≤ 1
one_of_chain c antichain_nil f = omega arith
one_of_chain c (antichain_cons n antichain_nil) f = omega arith
one_of_chain c (antichain_cons {M = M} n (antichain_cons {M = N} k a)) f =
    go (comparable c M N (f M (Memᴰ-head refl)) (f N (Memᴰ-tail (Memᴰ-head refl)))) (n N (Memᴰ-head refl))
  where
    go : {B : Type 0} → (M ⊆ N) ⊎ (N ⊆ M) → Incomparable M N → B
    go (inl w) i = absurd (i.not_within w)
    go (inr w) i = absurd (i.not_around w)

without_none : (M W : ℕ) → W ≡ 0 → M ≡ M ∖ W
without_none M W e =
    ext M (M ∖ W) (λ i p. has_without M W p (λ w. has_none (subst (λ (x : ℕ). Has x i) e w))) (λ i p. without_left M W p)

-- ---- along the atoms of W

-- where W has at most n atoms, a family over a chain has at most as many sets as chains come of it
Bounded : ℕ → Type 0
Bounded n = (W : ℕ) (chain family : List ℕ) → ones W ≤ n → Chain chain → Antichain family → Over W chain family → length family ≤ chains n (length chain)

-- one atom of W
step : (n W a x : ℕ) (xs family : List ℕ) → Bounded n → Has W a → ones W ≤ suc n → Chain (x ∷ xs) → Chain xs → Antichain family
    → Over W (x ∷ xs) family → length family ≤ chains (suc n) (suc (length xs))
unfolding Bounded
step n W a x xs family bounds h l chain rest anti over =
    let s = parted anti (λ M m. taller_or_shorter a M W x xs (over M m)) in
    let k : ones (W ∖ atom a) ≤ n = omega (arith, count_without W a h) in
    let tall = bounds (W ∖ atom a) (taller a x xs) s.left k (taller_chain a chain) s.of_left.antichain (λ M m. (s.of_left.each M m).1) in
    let short = bounds (W ∖ atom a) (shorter a xs) s.right k (shorter_chain a rest) s.of_right.antichain (λ M m. (s.of_right.each M m).1) in
    let e = ap (chains n) (length-map xs (λ x. x ∪ atom a)) in
    omega (arith, s.counted, chains_next n (length xs), tall, short, e)

-- where no atom is left
at-end : (n W x : ℕ) (xs family : List ℕ) → W ≡ 0 → Chain (x ∷ xs) → Antichain family → Over W (x ∷ xs) family
    → length family ≤ chains n (suc (length xs))
at-end n W x xs family e chain anti over =
    omega (arith, chains_some n (length xs), one_of_chain chain anti (λ M m. Memᴰ-cast (without_none M W e) (over M m)))

rest_chain : {x : ℕ} {xs : List ℕ} → Chain (x ∷ xs) → Chain xs
rest_chain (chain_cons f c) = c

no_atom : (W : ℕ) → ones W ≤ 0 → W ≡ 0
no_atom W l = empty W (λ i h. omega (arith, count_without W i h))

bounded_none : Bounded 0
unfolding Bounded
bounded_none W [] family l chain anti over = omega (arith, over_none W family over)
bounded_none W (x ∷ xs) family l chain anti over = at-end 0 W x xs family (no_atom W l) chain anti over

bounded_more : (n : ℕ) → Bounded n → Bounded (suc n)
unfolding Bounded
bounded_more n bounds W [] family l chain anti over = omega (arith, over_none W family over)
bounded_more n bounds W (x ∷ xs) family l chain anti over = go (ℕ_discrete W 0)
  where
    go : Dec (W ≡ 0) → length family ≤ chains (suc n) (suc (length xs))
    go (yes e) = at-end (suc n) W x xs family e chain anti over
    go (no k) = let s = some_atom W k in step n W s.0 x xs family bounds s.1 l chain (rest_chain chain) anti over

bounded : (n : ℕ) → Bounded n
bounded zero = bounded_none
bounded (suc n) = bounded_more n (bounded n)

-- ---- the bound

-- for sets that are alike but for n atoms
pub sperner_around : (n W G : ℕ) (family : List ℕ) → ones W ≤ n → Antichain family → ((M : ℕ) → List-as-Memᴰ M family → M ∖ W ≡ G)
    → length family ≤ middle_binomial n
unfolding Bounded
sperner_around n W G family l anti alike =
    let one : Chain (G ∷ []) = chain_cons (λ y m. absurd (Memᴰ-not-nil m)) chain_nil in
    omega (arith, chains_middle n, bounded n W (G ∷ []) family l one anti (λ M m. Memᴰ-head (alike M m)))

-- "State the bound over any number of atoms as the middle binomial coefficient." (document 02, S-14)
pub sperner : (n W : ℕ) (family : List ℕ) → ones W ≤ n → Antichain family → ((M : ℕ) → List-as-Memᴰ M family → M ⊆ W)
    → length family ≤ middle_binomial n
sperner n W family l anti within =
    sperner_around n W 0 family l anti (λ M m. empty (M ∖ W) (λ i p. without_right M W p ((within M m).each i (without_left M W p))))

-- "a family of sets over ten atoms, none within another, has at most 252 members"
pub middle_of_ten : middle_binomial 10 ≡ 252
unfolding binomial
middle_of_ten = refl

pub at_most_252 : (W : ℕ) (family : List ℕ) → ones W ≤ 10 → Antichain family → ((M : ℕ) → List-as-Memᴰ M family → M ⊆ W) → length family ≤ 252
at_most_252 W family l anti within = omega (arith, middle_of_ten, sperner 10 W family l anti within)
