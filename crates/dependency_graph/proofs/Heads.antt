-- The laws of reach and of head atoms. Reach is the paths' relation, by Warshall's recursion over the highest middle unit;
-- along an edge it shrinks, so reach read as a number is the rank of an acyclic graph.
use Rattle.dependency_graph.proofs.Prelude.{◌≡◌, refl, ap, subst, Bool, true, false, ◌⊎◌, inl, inr, List, ℕ, zero, suc, ◌+◌, ◌≤◌, ◌<◌, arith}
use Rattle.dependency_graph.proofs.Prelude.{ℕ_discrete, add-one, get_or, Has, has, ◌∩◌, ◌∪◌, below, Collects, decides_has, subset_lt, collects_iff}
use Rattle.dependency_graph.proofs.Prelude.{collects_has, collects_below, collects_cut, collects_union, collects_union_in, Units, Holds, Edge, Path}
use Rattle.dependency_graph.proofs.Prelude.{one, more, Acyclic, FilledFirst, through, reach_via, reach, own, heads, input_heads}
use Rattle.dependency_graph.proofs.Filled.{filled_same, filled_again}

-- ---- paths

pub path_start : (S : Units) {u v : ℕ} → Path S u v → u < S.units
path_start S (one e) = e.is_unit
path_start S (more e p) = e.is_unit

pub path_end : (S : Units) {u v : ℕ} → Path S u v → v < S.units
path_end S (one e) = e.is_predecessor
path_end S (more e p) = path_end S p

pub path_append : (S : Units) {u v w : ℕ} → Path S u v → Path S v w → Path S u w
path_append S (one e) q = more e q
path_append S (more e p) q = more e (path_append S p q)

-- the units that the code finds by an edge
pub collects_direct : (S : Units) (u : ℕ) → u < S.units → Collects (Edge S u) (S.predecessors u ∩ below S.units)
collects_direct S u l =
    collects_iff (λ v k. record { is_unit = l; is_predecessor = k.1; edge = k.0 }) (λ v e. (e.edge, e.is_predecessor))
    (collects_cut (collects_has (S.predecessors u)) (collects_below S.units))

-- ---- one middle unit more

pub through_miss : (w k m : ℕ) → has w k ≡ false → w ≡ through w k m
unfolding through
through_miss w k m e = rw (e, through)

pub through_hit : (w k m : ℕ) → has w k ≡ true → w ∪ m ≡ through w k m
unfolding through
through_hit w k m e = rw (e, through)

collects_through : (w k m : ℕ) → Collects (λ v. Has w v ⊎ (Has w k × Has m v)) (through w k m)
unfolding through
collects_through w k m = go (has w k) refl
  where
    with_middle : Has w k → (v : ℕ) → Has w v ⊎ Has m v → Has w v ⊎ (Has w k × Has m v)
    with_middle h v (inl p) = inl p
    with_middle h v (inr p) = inr (h, p)

    without : (v : ℕ) → Has w v ⊎ (Has w k × Has m v) → Has w v ⊎ Has m v
    without v (inl p) = inl p
    without v (inr p) = inr p.1

    missed : ¬ Has w k → (v : ℕ) → Has w v ⊎ (Has w k × Has m v) → Has w v
    missed n v (inl p) = p
    missed n v (inr p) = absurd (n p.0)

    go : (b : Bool) → has w k ≡ b → Collects (λ v. Has w v ⊎ (Has w k × Has m v)) (elim b [ true ↦ w ∪ m | false ↦ w ])
    go true e = collects_iff (with_middle ((decides_has w k).yes e)) without (collects_union (collects_has w) (collects_has m))
    go false e = collects_iff (λ v p. inl p) (missed ((decides_has w k).no e)) (collects_has w)

-- in a table of what the units reach
via_next : (S : Units) (n k : ℕ) (table : List ℕ) → k < n → ((u : ℕ) → u < n → get_or table u 0 ≡ reach_via S k u) → (u : ℕ) → u < n
    → through (get_or table u 0) k (get_or table k 0) ≡ reach_via S (k + 1) u
unfolding reach_via
via_next S n k table l f u h = rw (f u h, f k l, add-one)

-- a turn of the loop, and its end
pub reach_next : (S : Units) (n k : ℕ) {before table after : List ℕ} → FilledFirst n (reach_via S k) before table → k < n
    → FilledFirst n (λ u. through (get_or table u 0) k (get_or table k 0)) table after → FilledFirst n (reach_via S (k + 1)) before after
reach_next S n k {table = table} f l g = filled_same (filled_again f g) (reach_via S (k + 1)) (via_next S n k table l f.filled)

pub reach_filled : (S : Units) (n : ℕ) {k : ℕ} {before direct after : List ℕ} → FilledFirst n (reach_via S 0) before direct
    → FilledFirst n (reach_via S k) direct after → k ≤ n → n ≤ k → S.units ≡ n → FilledFirst n (reach S) before after
unfolding reach
reach_filled S n {k} f g a b e =
    let all : k ≡ S.units = omega arith in
    filled_same (filled_again f g) (reach S) (λ u l. ap (λ (i : ℕ). reach_via S i u) all)

-- ---- reach over middle units below k

collects_via : (S : Units) (k u : ℕ)
    → Collects (λ v. Has (reach_via S k u) v ⊎ (Has (reach_via S k u) k × Has (reach_via S k k) v)) (reach_via S (suc k) u)
unfolding reach_via
collects_via S k u = collects_through (reach_via S k u) k (reach_via S k k)

collects_via_zero : (S : Units) (u : ℕ) → u < S.units → Collects (Edge S u) (reach_via S 0 u)
unfolding reach_via
collects_via_zero S u l = collects_direct S u l

via_path : (S : Units) (k u v : ℕ) → u < S.units → Has (reach_via S k u) v → Path S u v
via_path S zero u v l h = one ((collects_via_zero S u l).each v h)
via_path S (suc k) u v l h = go (via_path S k u) (via_path S k k) ((collects_via S k u).each v h)
  where
    go : ((w : ℕ) → u < S.units → Has (reach_via S k u) w → Path S u w)
        → ((w : ℕ) → k < S.units → Has (reach_via S k k) w → Path S k w)
        → Has (reach_via S k u) v ⊎ (Has (reach_via S k u) k × Has (reach_via S k k) v) → Path S u v
    go f g (inl p) = f v l p
    go f g (inr p) = let q = f k l p.0 in path_append S q (g v (path_end S q) p.1)

-- the middle unit is met whether or not it was met before
via_to : (S : Units) (k u : ℕ) → Has (reach_via S (suc k) u) k → Has (reach_via S k u) k
via_to S k u h = go ((collects_via S k u).each k h)
  where
    go : Has (reach_via S k u) k ⊎ (Has (reach_via S k u) k × Has (reach_via S k k) k) → Has (reach_via S k u) k
    go (inl p) = p
    go (inr p) = p.0

via_from : (S : Units) (k v : ℕ) → Has (reach_via S (suc k) k) v → Has (reach_via S k k) v
via_from S k v h = go ((collects_via S k k).each v h)
  where
    go : Has (reach_via S k k) v ⊎ (Has (reach_via S k k) k × Has (reach_via S k k) v) → Has (reach_via S k k) v
    go (inl p) = p
    go (inr p) = p.1

via_trans : (S : Units) (k u m v : ℕ) → m < k → Has (reach_via S k u) m → Has (reach_via S k m) v
    → Has (reach_via S k u) v
via_trans S zero u m v l p q = absurd (omega arith)
via_trans S (suc k) u m v l p q =
    go (λ x y z n. via_trans S k x y z n) (ℕ_discrete m k) ((collects_via S k u).each m p) ((collects_via S k m).each v q)
  where
    go : ((x y z : ℕ) → y < k → Has (reach_via S k x) y → Has (reach_via S k y) z → Has (reach_via S k x) z)
        → Dec (m ≡ k) → Has (reach_via S k u) m ⊎ (Has (reach_via S k u) k × Has (reach_via S k k) m)
        → Has (reach_via S k m) v ⊎ (Has (reach_via S k m) k × Has (reach_via S k k) v)
        → Has (reach_via S (suc k) u) v
    go ih (yes e) a b =
        (collects_via S k u).all v (inr (
          via_to S k u (subst (λ (x : ℕ). Has (reach_via S (suc k) u) x) e p),
          via_from S k v (subst (λ (x : ℕ). Has (reach_via S (suc k) x) v) e q),
        ))
    go ih (no e) (inl a) (inl b) = (collects_via S k u).all v (inl (ih u m v (omega arith) a b))
    go ih (no e) (inl a) (inr b) = (collects_via S k u).all v (inr (ih u m k (omega arith) a b.0, b.1))
    go ih (no e) (inr a) (inl b) = (collects_via S k u).all v (inr (a.0, ih k m v (omega arith) a.1 b))
    go ih (no e) (inr a) (inr b) = (collects_via S k u).all v (inr (a.0, b.1))

via_all : (S : Units) (k u v : ℕ) → Edge S u v → Has (reach_via S k u) v
via_all S zero u v e = (collects_via_zero S u e.is_unit).all v e
via_all S (suc k) u v e = (collects_via S k u).all v (inl (via_all S k u v e))

-- ---- reach

pub reach_path : (S : Units) (u v : ℕ) → u < S.units → Has (reach S u) v → Path S u v
unfolding reach
reach_path S u v l h = via_path S S.units u v l h

pub reach_edge : (S : Units) (u v : ℕ) → Edge S u v → Has (reach S u) v
unfolding reach
reach_edge S u v e = via_all S S.units u v e

pub reach_trans : (S : Units) (u v w : ℕ) → Edge S u v → Has (reach S v) w → Has (reach S u) w
unfolding reach
reach_trans S u v w e h = via_trans S S.units u v w e.is_predecessor (via_all S S.units u v e) h

pub path_reach : (S : Units) (u v : ℕ) → Path S u v → Has (reach S u) v
path_reach S u v (one e) = reach_edge S u v e
path_reach S u v (more {v = m} e p) = reach_trans S u m v e (path_reach S m v p)

-- along an edge of an acyclic graph reach shrinks
pub edge_rank : (S : Units) → Acyclic S → (u v : ℕ) → Edge S u v → reach S v < reach S u
edge_rank S a u v e = subset_lt {a = reach S v} {b = reach S u} (record {
  within = record { each = λ w h. reach_trans S u v w e h };
  short = λ f. a.no_return v (reach_path S v v e.is_predecessor (f.each v (reach_edge S u v e)));
})

-- ---- head atoms

collects_own : (S : Units) (u : ℕ) → u < S.units → Collects (λ a. (r : ℕ) × Holds S u r × Has (S.program.head r) a) (own S u)
unfolding own
collects_own S u l =
    collects_iff (λ a k. (k.0, record { is_unit = l; is_rule = k.1; holds = k.2 }, k.3))
    (λ a k. (k.0, k.1.is_rule, k.1.holds, k.2))
    (collects_union_in S.rules (S.unit u) S.program.head (λ r k. collects_has (S.program.head r)))

pub own_has : (S : Units) (u r a : ℕ) → Holds S u r → Has (S.program.head r) a → Has (own S u) a
own_has S u r a h k = (collects_own S u h.is_unit).all a (r, h, k)

pub own_at : (S : Units) (u a : ℕ) → u < S.units → Has (own S u) a → (r : ℕ) × Holds S u r × Has (S.program.head r) a
own_at S u a l h = (collects_own S u l).each a h

-- the three parts of H(u)
pub collects_heads : (S : Units) (u : ℕ)
    → Collects (λ a. Has S.given a ⊎ (Has (own S u) a ⊎ ((w : ℕ) × (w < S.units) × Has (reach S u) w × Has (own S w) a))) (heads S u)
unfolding heads
collects_heads S u =
    collects_union (collects_has S.given)
    (collects_union (collects_has (own S u)) (collects_union_in S.units (reach S u) (own S) (λ w l. collects_has (own S w))))

pub heads_given : (S : Units) (u a : ℕ) → Has S.given a → Has (heads S u) a
heads_given S u a h = (collects_heads S u).all a (inl h)

pub heads_own : (S : Units) (u a : ℕ) → Has (own S u) a → Has (heads S u) a
heads_own S u a h = (collects_heads S u).all a (inr (inl h))

pub heads_reach : (S : Units) (u w a : ℕ) → w < S.units → Has (reach S u) w → Has (own S w) a → Has (heads S u) a
heads_reach S u w a l p h = (collects_heads S u).all a (inr (inr (w, l, p, h)))

-- the two parts of Hp(u)
collects_inputs : (S : Units) (u : ℕ)
    → Collects (λ a. Has S.given a ⊎ ((v : ℕ) × (v < S.units) × Has (S.predecessors u) v × Has (heads S v) a)) (input_heads S u)
unfolding input_heads
collects_inputs S u =
    collects_union (collects_has S.given)
    (collects_union_in S.units (S.predecessors u) (heads S) (λ v l. collects_has (heads S v)))

pub input_given : (S : Units) (u a : ℕ) → Has S.given a → Has (input_heads S u) a
input_given S u a h = (collects_inputs S u).all a (inl h)

pub input_edge : (S : Units) (u v a : ℕ) → Edge S u v → Has (heads S v) a → Has (input_heads S u) a
input_edge S u v a e h = (collects_inputs S u).all a (inr (v, e.is_predecessor, e.edge, h))

pub input_cases : (S : Units) (u a : ℕ) → u < S.units → Has (input_heads S u) a
    → Has S.given a ⊎ ((v : ℕ) × Edge S u v × Has (heads S v) a)
input_cases S u a l h = go ((collects_inputs S u).each a h)
  where
    go : Has S.given a ⊎ ((v : ℕ) × (v < S.units) × Has (S.predecessors u) v × Has (heads S v) a)
        → Has S.given a ⊎ ((v : ℕ) × Edge S u v × Has (heads S v) a)
    go (inl p) = inl p
    go (inr p) = inr (p.0, record { is_unit = l; is_predecessor = p.1; edge = p.2 }, p.3)

-- what an edge's unit has is had above it
pub heads_edge : (S : Units) (u v a : ℕ) → Edge S u v → Has (heads S v) a → Has (heads S u) a
heads_edge S u v a e h = go ((collects_heads S v).each a h)
  where
    go : Has S.given a ⊎ (Has (own S v) a ⊎ ((w : ℕ) × (w < S.units) × Has (reach S v) w × Has (own S w) a))
        → Has (heads S u) a
    go (inl p) = heads_given S u a p
    go (inr (inl p)) = heads_reach S u v a e.is_predecessor (reach_edge S u v e) p
    go (inr (inr p)) = heads_reach S u p.0 a p.1 (reach_trans S u v p.0 e p.2) p.3

pub heads_input : (S : Units) (u a : ℕ) → u < S.units → Has (input_heads S u) a → Has (heads S u) a
heads_input S u a l h = go (input_cases S u a l h)
  where
    go : Has S.given a ⊎ ((v : ℕ) × Edge S u v × Has (heads S v) a) → Has (heads S u) a
    go (inl p) = heads_given S u a p
    go (inr p) = heads_edge S u p.0 a p.1 p.2

-- H(u) is the own head atoms and Hp(u): a path is its first edge and what follows
pub heads_cases : (S : Units) (u a : ℕ) → u < S.units → Has (heads S u) a → Has (own S u) a ⊎ Has (input_heads S u) a
heads_cases S u a l h = go ((collects_heads S u).each a h)
  where
    first : (w : ℕ) → Has (own S w) a → Path S u w → Has (input_heads S u) a
    first w k (one e) = input_edge S u w a e (heads_own S w a k)
    first w k (more {v = v} e p) =
        input_edge S u v a e (heads_reach S v w a (path_end S p) (path_reach S v w p) k)

    go : Has S.given a ⊎ (Has (own S u) a ⊎ ((w : ℕ) × (w < S.units) × Has (reach S u) w × Has (own S w) a))
        → Has (own S u) a ⊎ Has (input_heads S u) a
    go (inl p) = inr (input_given S u a p)
    go (inr (inl p)) = inl p
    go (inr (inr p)) = inr (first p.0 p.3 (reach_path S u p.0 l p.2))
