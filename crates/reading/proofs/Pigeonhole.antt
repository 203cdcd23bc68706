-- At most MAX_EDGES edges join MAX_UNITS units: each takes a number below MAX_EDGES of its own. And so many do: each number has its edge.
use Rattle.reading.proofs.Prelude.{◌≡◌, ap, sym, ◌∙◌, subst, List, [], ◌∷◌, List-as-Memᴰ, Memᴰ-head, Memᴰ-tail, ◌⊎◌, inl, inr, ℕ, min, ◌+◌, ◌*◌}
use Rattle.reading.proofs.Prelude.{◌-◌, ◌/◌, ◌%◌, ◌≤◌, ◌<◌, arith, dec_lt, ones, ones-le, length, Has, ◌∪◌, atom, has_none, has_left, has_right}
use Rattle.reading.proofs.Prelude.{has_atom, atom_only, union_cases, lt_of_has, MAX_UNITS, MAX_EDGES, UnitPair, All, AllDistinct, GoodEdge}
use Rattle.atoms.proofs.Counts.{count_lt}
use Rattle.reading.proofs.Predecessors.{pair_is}
use Rattle.reading.proofs.ElementLists.{list_below, below_long, below_all, below_distinct}

-- a number for each other unit of u: the v below it, then those above
abbrev OTHERS : ℕ
OTHERS = MAX_UNITS - 1

place : ℕ → ℕ → ℕ
place u v = v - min 1 (v - u)

place_above : (u v : ℕ) → u < v → place u v ≡ v - 1
unfolding place
place_above u v h = omega arith

place_below : (u v : ℕ) → v ≤ u → place u v ≡ v
unfolding place
place_below u v h = omega arith

place_lt : (e : UnitPair) → GoodEdge MAX_UNITS e → place e.u e.v < OTHERS
unfolding place
place_lt e g = omega (arith, g.from_there, g.to_there, g.apart)

slot : UnitPair → ℕ
slot e = OTHERS * e.u + place e.u e.v

slots : List UnitPair → ℕ
slots [] = 0
slots (e ∷ edges) = slots edges ∪ atom (slot e)

slot_below : (e : UnitPair) → GoodEdge MAX_UNITS e → slot e < MAX_EDGES
unfolding slot
slot_below e g = omega (arith, g.from_there, place_lt e g)

-- the two digits of a number in base OTHERS
digits : (a b c d : ℕ) → b < OTHERS → d < OTHERS → OTHERS * a + b ≡ OTHERS * c + d → (a ≡ c) × (b ≡ d)
digits a b c d l k e = (omega arith, omega arith)

place_own : (u v w : ℕ) → ¬ (u ≡ v) → ¬ (u ≡ w) → place u v ≡ place u w → v ≡ w
place_own u v w d n e = go (dec_lt u v) (dec_lt u w)
  where
    go : Dec (u < v) → Dec (u < w) → v ≡ w
    go (yes p) (yes q) = omega (arith, place_above u v p, place_above u w q)
    go (yes p) (no q) = absurd (omega (arith, place_above u v p, place_below u w (omega arith)))
    go (no p) (yes q) = absurd (omega (arith, place_below u v (omega arith), place_above u w q))
    go (no p) (no q) = omega (arith, place_below u v (omega arith), place_below u w (omega arith))

slot_own : (d e : UnitPair) → GoodEdge MAX_UNITS d → GoodEdge MAX_UNITS e → slot d ≡ slot e → d ≡ e
unfolding slot
slot_own d e g h q =
    let z = digits d.u (place d.u d.v) e.u (place e.u e.v) (place_lt d g) (place_lt e h) q in
    let n : ¬ (d.u ≡ e.v) = λ k. h.apart (sym z.0 ∙ k) in
    pair_is z.0 (place_own d.u d.v e.v g.apart n (z.1 ∙ ap (λ (x : ℕ). place x e.v) (sym z.0)))

slot_taken : (edges : List UnitPair) (e : UnitPair) → All (GoodEdge MAX_UNITS) edges → GoodEdge MAX_UNITS e → Has (slots edges) (slot e)
    → List-as-Memᴰ e edges
unfolding slots
slot_taken [] e a g h = absurd (has_none h)
slot_taken (x ∷ edges) e a g h = go (slot_taken edges e a.1 g) (union_cases (slots edges) (atom (slot x)) h)
  where
    go : (Has (slots edges) (slot e) → List-as-Memᴰ e edges) → Has (slots edges) (slot e) ⊎ Has (atom (slot x)) (slot e) → List-as-Memᴰ e (x ∷ edges)
    go rec (inl k) = Memᴰ-tail (rec k)
    go rec (inr k) = Memᴰ-head (slot_own e x g a.0 (sym (atom_only (slot x) k)))

count_slots : (edges : List UnitPair) → All (GoodEdge MAX_UNITS) edges → AllDistinct edges → length edges ≤ ones (slots edges)
unfolding slots
count_slots [] a d = omega arith
count_slots (e ∷ edges) a d =
    let rec = count_slots edges a.1 d.1 in
    let more = count_lt (slot e) (slots edges) (slots edges ∪ atom (slot e)) (record { each = λ i p. has_left (slots edges) (atom (slot e)) p })
    (has_right (slots edges) (atom (slot e)) (has_atom (slot e))) (λ h. d.0 (slot_taken edges e a.1 a.0 h)) in
    omega arith

slots_below : (edges : List UnitPair) → All (GoodEdge MAX_UNITS) edges → (i : ℕ) → Has (slots edges) i → i < MAX_EDGES
unfolding slots
slots_below [] a i h = absurd (has_none h)
slots_below (e ∷ edges) a i h = go (slots_below edges a.1 i) (union_cases (slots edges) (atom (slot e)) h)
  where
    go : (Has (slots edges) i → i < MAX_EDGES) → Has (slots edges) i ⊎ Has (atom (slot e)) i → i < MAX_EDGES
    go rec (inl k) = rec k
    go rec (inr k) = subst (λ (j : ℕ). j < MAX_EDGES) (atom_only (slot e) k) (slot_below e a.0)

pub edges_at_most : (edges : List UnitPair) → All (GoodEdge MAX_UNITS) edges → AllDistinct edges → length edges ≤ MAX_EDGES
edges_at_most edges a d = omega (arith, count_slots edges a d, ones-le MAX_EDGES (slots edges) (lt_of_has (slots edges) MAX_EDGES (slots_below edges a)))

-- ---- all edges there are

abbrev edge_at : ℕ → UnitPair
edge_at i = record { u = i / OTHERS; v = i % OTHERS + min 1 (i % OTHERS + 1 - i / OTHERS) }

edge_good : (i : ℕ) → i < MAX_EDGES → GoodEdge MAX_UNITS (edge_at i)
edge_good i l = record { from_there = omega arith; to_there = omega arith; apart = λ e. omega arith }

edge_own : (i j : ℕ) → edge_at i ≡ edge_at j → i ≡ j
edge_own i j e = omega (arith, ap (λ (x : UnitPair). x.u) e, ap (λ (x : UnitPair). x.v) e)

pub edges_below : ℕ → List UnitPair
edges_below n = list_below edge_at n

pub edges_long : (n : ℕ) → length (edges_below n) ≡ n
unfolding edges_below
edges_long n = below_long edge_at n

pub edges_good : (n : ℕ) → n ≤ MAX_EDGES → All (GoodEdge MAX_UNITS) (edges_below n)
unfolding edges_below
edges_good n l = below_all edge_at (GoodEdge MAX_UNITS) n (λ i k. edge_good i (omega arith))

pub edges_distinct : (n : ℕ) → AllDistinct (edges_below n)
unfolding edges_below
edges_distinct n = below_distinct edge_at edge_own n
