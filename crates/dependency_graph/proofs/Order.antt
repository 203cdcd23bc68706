-- The working order: the next unit is the lowest that is ready; on an acyclic graph some unit is ready as long as one is not
-- done, since a unit of the least rank that is not done is; so every unit is worked, once, after its predecessors.
use Rattle.dependency_graph.proofs.Prelude.{◌≡◌, refl, sym, ap₂, subst, Bool, true, false, ◌&&◌, ◌⊎◌, inl, inr, List, [], ◌∷◌, ◌++◌, List-as-Memᴰ}
use Rattle.dependency_graph.proofs.Prelude.{Memᴰ-head, Memᴰ-tail, Memᴰ-not-nil, Memᴰ-cases_cons, ℕ, zero, suc, ◌≤◌, ◌<◌, arith}
use Rattle.dependency_graph.proofs.Prelude.{ℕ_discrete, ones, ones-le, ltb, ltb-true, ltb-false, Has, has, ◌∩◌, ◌∪◌, ◌∖◌, atom, below, subset, Decides}
use Rattle.dependency_graph.proofs.Prelude.{Collects, decides_iff, decides_and, decides_not, decided, decides_has, decides_subset, has_dec, has_left}
use Rattle.dependency_graph.proofs.Prelude.{has_right, union_cases, has_atom, atom_only, has_none, lt_of_has, count_lt, collects_none, collects_some}
use Rattle.dependency_graph.proofs.Prelude.{collects_has, collects_below, collects_without, least_same, lowest_le, lowest_here, lowest_least}
use Rattle.dependency_graph.proofs.Prelude.{lowest_is, lowest_none, Units, Edge, Acyclic, reach, Ready, ready, next_unit, order_from, working_order}
use Rattle.dependency_graph.proofs.Prelude.{InOrder, all_done, next}
use Rattle.std.specs.Option.{MatchOption}
use Rattle.std.specs.declared.option.Option.{Option}
use Rattle.std.specs.declared.option.Option.TheVariants.{None, Some}
use Rattle.dependency_graph.proofs.Heads.{collects_direct, edge_rank}

-- ---- ready units

pub decides_ready : (S : Units) (done u : ℕ) → u < S.units → Decides (Ready S done u) (ready S done u)
unfolding ready
decides_ready S done u l =
    decides_iff (λ h. record { waits = h.0; predecessors_done = λ v e. h.1.each v ((collects_direct S u l).all v e) })
    (λ h. (h.waits, record { each = λ v p. h.predecessors_done v ((collects_direct S u l).each v p) }))
    (decides_and (decides_not (decides_has done u)) (decides_subset (S.predecessors u ∩ below S.units) done))

-- the two parts of the test
pub done_not_ready : (S : Units) (done u : ℕ) → has done u ≡ true → false ≡ ready S done u
unfolding ready
done_not_ready S done u e = rw (e, ◌&&◌)

pub ready_of_waiting : (S : Units) (done u : ℕ) → has done u ≡ false → subset (S.predecessors u ∩ below S.units) done ≡ ready S done u
unfolding ready
ready_of_waiting S done u e = rw (e, ◌&&◌)

-- the first unit that is ready is worked next
pub next_first : (S : Units) (done : ℕ) (r : Option ℕ)
    → MatchOption r ((k : ℕ) → 0 ≤ k → k < S.units → ready S done k ≡ false)
    (λ u. (0 ≤ u) × (u < S.units) × (ready S done u ≡ true) × ((k : ℕ) → 0 ≤ k → k < u → ready S done k ≡ false))
    → MatchOption r (next_unit S done ≡ S.units) (λ u. (u < S.units) × (u ≡ next_unit S done))
unfolding next_unit
next_first S done None f = lowest_none S.units (ready S done) (λ k l. f k (omega arith) l)
next_first S done (Some u) f = (f.1, sym (lowest_is S.units (ready S done) u f.1 f.2 (λ k l. f.3 k (omega arith) l)))

-- a unit that is not done and not ready has a predecessor that is not done
waiting_predecessor : (S : Units) (done u : ℕ) → u < S.units → ¬ Has done u → ¬ Ready S done u
    → (v : ℕ) × Edge S u v × ¬ Has done v
waiting_predecessor S done u l h n = go (ℕ_discrete ((S.predecessors u ∩ below S.units) ∖ done) 0)
  where
    wait : Collects (λ v. Edge S u v × ¬ Has done v) ((S.predecessors u ∩ below S.units) ∖ done)
    wait = collects_without (collects_direct S u l) (collects_has done)

    in_done : ((v : ℕ) → ¬ (Edge S u v × ¬ Has done v)) → (v : ℕ) → Edge S u v → Dec (Has done v) → Has done v
    in_done f v e (yes p) = p
    in_done f v e (no p) = absurd (f v (e, p))

    go : Dec ((S.predecessors u ∩ below S.units) ∖ done ≡ 0) → (v : ℕ) × Edge S u v × ¬ Has done v
    go (yes z) =
        absurd (n (record { waits = h; predecessors_done = λ v e. in_done ((collects_none wait).0 z) v e (has_dec done v) }))
    go (no z) = let s = collects_some wait z in (s.0, s.1.0, s.1.1)

-- below a unit that is not done some unit is ready
some_ready : (S : Units) → Acyclic S → (done k u : ℕ) → reach S u < k → u < S.units → ¬ Has done u
    → (w : ℕ) × (w < S.units) × Ready S done w
some_ready S a done zero u b l h = absurd (omega arith)
some_ready S a done (suc k) u b l h = go (some_ready S a done k) (decided (decides_ready S done u l))
  where
    go : ((v : ℕ) → reach S v < k → v < S.units → ¬ Has done v → (w : ℕ) × (w < S.units) × Ready S done w)
        → Dec (Ready S done u) → (w : ℕ) × (w < S.units) × Ready S done w
    go ih (yes r) = (u, l, r)
    go ih (no r) =
        let s = waiting_predecessor S done u l h r in
        ih s.0 (omega (arith, edge_rank S a u s.0 s.1)) s.1.is_predecessor s.2

-- ---- the next unit

pub next_le : (S : Units) (done : ℕ) → next_unit S done ≤ S.units
unfolding next_unit
next_le S done = lowest_le S.units (ready S done)

pub next_ready : (S : Units) (done : ℕ) → next_unit S done < S.units → Ready S done (next_unit S done)
unfolding next_unit
next_ready S done l = (decides_ready S done (next_unit S done) l).yes (lowest_here S.units (ready S done) l)

pub next_lowest : (S : Units) (done v : ℕ) → v < next_unit S done → ¬ Ready S done v
unfolding next_unit
next_lowest S done v l =
    (decides_ready S done v (omega (arith, lowest_le S.units (ready S done)))).no (lowest_least S.units (ready S done) v l)

-- where no unit is ready, all are done
pub next_none : (S : Units) → Acyclic S → (done : ℕ) → S.units ≤ next_unit S done → (u : ℕ) → u < S.units → Has done u
next_none S a done l u k = go (has_dec done u)
  where
    go : Dec (Has done u) → Has done u
    go (yes h) = h
    go (no h) =
        let s = some_ready S a done (suc (reach S u)) u (omega arith) k h in
        absurd (next_lowest S done s.0 (omega (arith, s.1)) s.2)

-- ---- the order

-- how many units wait
abbrev waiting : Units → ℕ → ℕ
waiting S done = ones (below S.units ∖ done)

collects_waiting : (S : Units) (done : ℕ) → Collects (λ u. (u < S.units) × ¬ Has done u) (below S.units ∖ done)
collects_waiting S done = collects_without (collects_below S.units) (collects_has done)

fewer_wait : (S : Units) (done u : ℕ) → u < S.units → ¬ Has done u → waiting S (done ∪ atom u) < waiting S done
fewer_wait S done u l h =
    let old = collects_waiting S done in
    let new = collects_waiting S (done ∪ atom u) in
    count_lt u (below S.units ∖ (done ∪ atom u)) (below S.units ∖ done)
    (record { each = λ i p. let k = new.each i p in old.all i (k.0, λ q. k.1 (has_left done (atom u) q)) })
    (old.all u (l, h)) (λ p. (new.each u p).1 (has_right done (atom u) (has_atom u)))

none_waits : (S : Units) (done : ℕ) → waiting S done ≤ 0 → (u : ℕ) → u < S.units → Has done u
none_waits S done w u l = go (has_dec done u)
  where
    go : Dec (Has done u) → Has done u
    go (yes h) = h
    go (no h) = absurd (omega (arith, fewer_wait S done u l h))

order_from_lem : (S : Units) → Acyclic S → (most done : ℕ) → waiting S done ≤ most → InOrder S done (order_from S most done)
unfolding order_from
order_from_lem S a zero done w = all_done (none_waits S done w)
order_from_lem S a (suc most) done w = go (ltb (next_unit S done) S.units) refl (order_from_lem S a most (done ∪ atom (next_unit S done)))
  where
    go : (b : Bool) → ltb (next_unit S done) S.units ≡ b
        → (waiting S (done ∪ atom (next_unit S done)) ≤ most
        → InOrder S (done ∪ atom (next_unit S done)) (order_from S most (done ∪ atom (next_unit S done))))
        → InOrder S done (elim b [ true ↦ next_unit S done ∷ order_from S most (done ∪ atom (next_unit S done)) | false ↦ [] ])
    go true e rest =
        let l : next_unit S done < S.units = ltb-true (next_unit S done) S.units e in
        let r = next_ready S done l in
        next l r (next_lowest S done) (rest (omega (arith, fewer_wait S done (next_unit S done) l r.waits)))
    go false e rest = all_done (next_none S a done (ltb-false (next_unit S done) S.units e))

waiting_most : (S : Units) → waiting S 0 ≤ S.units
waiting_most S =
    ones-le S.units (below S.units ∖ 0) (lt_of_has (below S.units ∖ 0) S.units (λ i p. ((collects_waiting S 0).each i p).0))

-- on an acyclic graph the working order works every unit, once, after its predecessors, the lowest that is ready first
pub order_right : (S : Units) → Acyclic S → InOrder S 0 (working_order S)
unfolding working_order
order_right S a = order_from_lem S a S.units 0 (waiting_most S)

-- there is no other: of two units that are both the lowest ready one neither is lower
pub order_one : (S : Units) {done : ℕ} {us vs : List ℕ} → InOrder S done us → InOrder S done vs → us ≡ vs
order_one S (all_done f) (all_done g) = refl
order_one S (all_done f) (next {u = u} l r low o) = absurd (r.waits (f u l))
order_one S (next {u = u} l r low o) (all_done f) = absurd (r.waits (f u l))
order_one S (next {done = done} {u = u} {us = us} l r low o) (next {u = v} {us = vs} k q high p) =
    let same : u ≡ v = least_same {P = Ready S done} (record { here = r; least = low }) (record { here = q; least = high }) in
    ap₂ ◌∷◌ same (order_one S o (subst (λ (x : ℕ). InOrder S (done ∪ atom x) vs) (sym same) p))

-- ---- what stands where in the order

order_parts : (S : Units) {done u : ℕ} {us : List ℕ} → InOrder S done (u ∷ us)
    → (u < S.units) × Ready S done u × InOrder S (done ∪ atom u) us
order_parts S (next l r f o) = (l, r, o)

in_order_each : (S : Units) {done : ℕ} {us : List ℕ} → InOrder S done us → (u : ℕ) → u < S.units → ¬ Has done u
    → List-as-Memᴰ u us
in_order_each S (all_done f) u l h = absurd (h (f u l))
in_order_each S (next {done = done} {u = v} {us = us} k r f o) u l h = go (in_order_each S o u l) (ℕ_discrete u v)
  where
    new : ¬ (u ≡ v) → Has done u ⊎ Has (atom v) u → ⊥
    new e (inl p) = h p
    new e (inr p) = e (sym (atom_only v p))

    go : (¬ Has (done ∪ atom v) u → List-as-Memᴰ u us) → Dec (u ≡ v) → List-as-Memᴰ u (v ∷ us)
    go ih (yes e) = Memᴰ-head e
    go ih (no e) = Memᴰ-tail (ih (λ p. new e (union_cases done (atom v) p)))

in_order_waits : (S : Units) {done : ℕ} {us : List ℕ} → InOrder S done us → (u : ℕ) → List-as-Memᴰ u us
    → (u < S.units) × ¬ Has done u
in_order_waits S (all_done f) u m = absurd (Memᴰ-not-nil m)
in_order_waits S (next {done = done} {u = v} {us = us} l r f o) u m = go (in_order_waits S o u) (Memᴰ-cases_cons m)
  where
    go : (List-as-Memᴰ u us → (u < S.units) × ¬ Has (done ∪ atom v) u) → (u ≡ v) ⊎ List-as-Memᴰ u us
        → (u < S.units) × ¬ Has done u
    go ih (inl e) = (omega arith, λ h. r.waits (subst (λ (x : ℕ). Has done x) e h))
    go ih (inr t) = let s = ih t in (s.0, λ h. s.1 (has_left done (atom v) h))

in_order_after : (S : Units) (done : ℕ) (xs : List ℕ) (u : ℕ) (ys : List ℕ) → InOrder S done (xs ++ (u ∷ ys))
    → (v : ℕ) → Edge S u v → Has done v ⊎ List-as-Memᴰ v xs
in_order_after S done [] u ys o v e = inl ((order_parts S o).1.predecessors_done v e)
in_order_after S done (x ∷ xs) u ys o v e =
    go (in_order_after S (done ∪ atom x) xs u ys (order_parts S o).2 v e)
  where
    met : Has done v ⊎ Has (atom x) v → Has done v ⊎ List-as-Memᴰ v (x ∷ xs)
    met (inl p) = inl p
    met (inr p) = inr (Memᴰ-head (sym (atom_only x p)))

    go : Has (done ∪ atom x) v ⊎ List-as-Memᴰ v xs → Has done v ⊎ List-as-Memᴰ v (x ∷ xs)
    go (inl p) = met (union_cases done (atom x) p)
    go (inr m) = inr (Memᴰ-tail m)

in_order_once : (S : Units) (done : ℕ) (xs : List ℕ) (u : ℕ) (ys : List ℕ) → InOrder S done (xs ++ (u ∷ ys))
    → ¬ List-as-Memᴰ u ys
in_order_once S done [] u ys o m =
    (in_order_waits S (order_parts S o).2 u m).1 (has_right done (atom u) (has_atom u))
in_order_once S done (x ∷ xs) u ys o m = in_order_once S (done ∪ atom x) xs u ys (order_parts S o).2 m

module _ (S : Units) (a : Acyclic S) where
  -- every unit is worked, and nothing else
  pub order_each : (u : ℕ) → u < S.units → List-as-Memᴰ u (working_order S)
  order_each u l = in_order_each S (order_right S a) u l has_none

  pub order_only : (u : ℕ) → List-as-Memᴰ u (working_order S) → u < S.units
  order_only u m = (in_order_waits S (order_right S a) u m).0

  -- once: it does not come again
  pub order_once : (xs : List ℕ) (u : ℕ) (ys : List ℕ) → working_order S ≡ xs ++ (u ∷ ys) → ¬ List-as-Memᴰ u ys
  order_once xs u ys e = in_order_once S 0 xs u ys (subst (λ (l : List ℕ). InOrder S 0 l) e (order_right S a))

  -- after its predecessors
  pub order_after : (xs : List ℕ) (u : ℕ) (ys : List ℕ) → working_order S ≡ xs ++ (u ∷ ys) → (v : ℕ) → Edge S u v
      → List-as-Memᴰ v xs
  order_after xs u ys e v k = go (in_order_after S 0 xs u ys (subst (λ (l : List ℕ). InOrder S 0 l) e (order_right S a)) v k)
    where
      go : Has 0 v ⊎ List-as-Memᴰ v xs → List-as-Memᴰ v xs
      go (inl p) = absurd (has_none p)
      go (inr m) = m
