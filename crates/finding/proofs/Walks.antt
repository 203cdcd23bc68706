-- A walk from the start to the end: the rising list of all is one, and each has all and nothing else.
use Rattle.finding.proofs.Prelude.{◌≡◌, refl, sym, subst, ◌⊎◌, inl, inr, List, [], ◌∷◌, List-as-Memᴰ, Memᴰ-head, Memᴰ-tail, Memᴰ-not-nil}
use Rattle.finding.proofs.Prelude.{Memᴰ-cases_cons, ℕ, ◌≤◌, ◌<◌, arith, ℕ_discrete, above_at, Behind, from_start, above, least, none as no-least}
use Rattle.finding.proofs.Prelude.{Option, Some}
use Rattle.atoms.specs.Rising.{Rising, rising_cons}
use Rattle.finding.specs.Walk.{Walk, ends, goes}

-- what is above one that is behind is behind
pub behind_up : {from : Option ℕ} {M N : ℕ} → M ≤ N → Behind from M → Behind from N
behind_up l from_start = from_start
behind_up {M = M} {N = N} l (above {p} k) = above (trans l k)
  where
    trans : M ≤ N → p < M → p < N
    trans x y = omega arith

pub behind_more : {from : Option ℕ} {M N : ℕ} → Behind from M → M < N → Behind from N
behind_more b l = behind_up (omega arith) b

pub above_of : {M N : ℕ} → Behind (Some M) N → M < N
above_of (above l) = l

-- the rising list of all with Q is a walk
pub walk_of : {Q : ℕ → Type 0} (from : Option ℕ) (xs : List ℕ) → Rising xs → ((M : ℕ) → List-as-Memᴰ M xs → Q M × Behind from M)
    → ((M : ℕ) → Q M → Behind from M → List-as-Memᴰ M xs) → Walk Q from xs
walk_of from [] r f g = ends (no-least (λ N q. Memᴰ-not-nil (g N q.0 q.1)))
walk_of {Q} from (x ∷ xs) (rising_cons a r) f g = goes (least here (λ N q. low N (Memᴰ-cases_cons (g N q.0 q.1))))
    (walk_of (Some x) xs r (λ N m. ((f N (Memᴰ-tail m)).0, above (above_at a N m)))
    (λ N q b. behind N (above_of b) (Memᴰ-cases_cons (g N q (behind_more here.1 (above_of b))))))
  where
    here : Q x × Behind from x
    here = f x (Memᴰ-head refl)

    low : (N : ℕ) → (N ≡ x) ⊎ List-as-Memᴰ N xs → x ≤ N
    low N (inl e) = omega arith
    low N (inr m) = omega (arith, above_at a N m)

    behind : (N : ℕ) → x < N → (N ≡ x) ⊎ List-as-Memᴰ N xs → List-as-Memᴰ N xs
    behind N l (inl e) = absurd (omega arith)
    behind N l (inr m) = m

-- a walk has all with Q that are behind its start, and no others
pub walk_at : {Q : ℕ → Type 0} {from : Option ℕ} {xs : List ℕ} → Walk Q from xs → (N : ℕ) → List-as-Memᴰ N xs → Q N
walk_at (ends p) N m = absurd (Memᴰ-not-nil m)
walk_at {Q} (goes {M = M} {Ms = Ms} (least p k) w) N m = go (Memᴰ-cases_cons m) (walk_at w N)
  where
    go : (N ≡ M) ⊎ List-as-Memᴰ N Ms → (List-as-Memᴰ N Ms → Q N) → Q N
    go (inl e) rest = subst Q (sym e) p.0
    go (inr n) rest = rest n

pub walk_has : {Q : ℕ → Type 0} {from : Option ℕ} {xs : List ℕ} → Walk Q from xs → (N : ℕ) → Q N → Behind from N → List-as-Memᴰ N xs
walk_has (ends (no-least n)) N q b = absurd (n N (q, b))
walk_has (goes {M = M} {Ms = Ms} (least p k) w) N q b = go (ℕ_discrete N M) (k N (q, b)) (λ l. walk_has w N q (above l))
  where
    go : Dec (N ≡ M) → M ≤ N → (M < N → List-as-Memᴰ N Ms) → List-as-Memᴰ N (M ∷ Ms)
    go (yes e) l rest = Memᴰ-head e
    go (no n) l rest = Memᴰ-tail (rest (omega arith))
