-- The laws of lists of words: members by index, filled up with zeros, and written down by number.
use Rattle.atoms.proofs.Prelude.{◌≡◌, refl, sym, ap, ap₂, ◌∙◌, ◌⊎◌, inl, inr, List, [], ◌∷◌, ◌++◌, append_assoc, List-as-Memᴰ, Memᴰ-head}
use Rattle.atoms.proofs.Prelude.{Memᴰ-tail, Memᴰ-not-nil, Memᴰ-cases_cons, ℕ, zero, suc, ◌+◌, ◌-◌, ◌≤◌, ◌<◌, arith, length, get_or, set}
use Rattle.atoms.proofs.Prelude.{replicate, length-append, length-replicate, get_or-append, set_at}
use Rattle.atoms.specs.Lists.{padded, tabulate}

-- ---- members by index

pub member_get_or : (xs : List ℕ) (i : ℕ) → i < length xs → List-as-Memᴰ (get_or xs i 0) xs
member_get_or [] i l = absurd (omega arith)
member_get_or (x ∷ xs) zero l = Memᴰ-head refl
member_get_or (x ∷ xs) (suc i) l = Memᴰ-tail (member_get_or xs i (omega arith))

pub index_of : (xs : List ℕ) (x : ℕ) → List-as-Memᴰ x xs → (i : ℕ) × (i < length xs) × (get_or xs i 0 ≡ x)
index_of [] x m = absurd (Memᴰ-not-nil m)
index_of (y ∷ ys) x m = go (Memᴰ-cases_cons m) (index_of ys x)
  where
    go : (x ≡ y) ⊎ List-as-Memᴰ x ys → (List-as-Memᴰ x ys → (i : ℕ) × (i < length ys) × (get_or ys i 0 ≡ x))
        → (i : ℕ) × (i < length (y ∷ ys)) × (get_or (y ∷ ys) i 0 ≡ x)
    go (inl e) rest = (0, omega arith, sym e)
    go (inr k) rest = let r = rest k in (suc r.0, omega (arith, r.1), r.2)

-- ---- filled up with zeros

pub padded_nil : (size : ℕ) → padded size [] ≡ replicate size 0
unfolding padded
padded_nil size = let e : size - 0 ≡ size = omega arith in ap (λ (n : ℕ). replicate {A = ℕ} n 0) e

pub padded_long : (size : ℕ) (xs : List ℕ) → length xs ≤ size → length (padded size xs) ≡ size
unfolding padded
padded_long size xs l =
    length-append xs (replicate (size - length xs) 0) ∙ ap (λ (n : ℕ). length xs + n) (length-replicate {A = ℕ} (size - length xs) 0)
    ∙ omega arith

pub padded_at : (size : ℕ) (xs : List ℕ) (i : ℕ) → i < length xs → get_or (padded size xs) i 0 ≡ get_or xs i 0
unfolding padded
padded_at size xs i l = get_or-append xs (replicate (size - length xs) 0) 0 i l

-- one more at the end
pub padded_snoc : (size : ℕ) (xs : List ℕ) (n x : ℕ) → length xs ≡ n → n < size
    → set (padded size xs) n x ≡ padded size (xs ++ (x ∷ []))
unfolding padded
padded_snoc size xs n x e h =
    let k : size - length xs ≡ suc (size - suc (length xs)) = omega arith in
    let l : length (xs ++ (x ∷ [])) ≡ suc (length xs) = length-append xs (x ∷ []) ∙ (omega arith) in
    ap (λ (j : ℕ). set (xs ++ replicate {A = ℕ} j 0) n x) k
    ∙ set_at xs 0 (replicate {A = ℕ} (size - suc (length xs)) 0) x n e
    ∙ sym (append_assoc xs (x ∷ []) (replicate {A = ℕ} (size - suc (length xs)) 0))
    ∙ ap (λ (j : ℕ). (xs ++ (x ∷ [])) ++ replicate {A = ℕ} (size - j) 0) (sym l)

-- ---- written down by number

pub tabulate_long : (n : ℕ) (f : ℕ → ℕ) → length (tabulate n f) ≡ n
unfolding tabulate
tabulate_long zero f = refl
tabulate_long (suc n) f = ap suc (tabulate_long n (λ i. f (suc i)))

pub tabulate_same : (n : ℕ) (f g : ℕ → ℕ) → ((i : ℕ) → i < n → f i ≡ g i) → tabulate n f ≡ tabulate n g
unfolding tabulate
tabulate_same zero f g h = refl
tabulate_same (suc n) f g h =
    ap₂ (λ (x : ℕ) (l : List ℕ). x ∷ l) (h 0 (omega arith))
    (tabulate_same n (λ i. f (suc i)) (λ i. g (suc i)) (λ i l. h (suc i) (omega arith)))

pub tabulate_zero : (n : ℕ) → tabulate n (λ i. 0) ≡ replicate n 0
unfolding tabulate
tabulate_zero zero = refl
tabulate_zero (suc n) = ap (λ (l : List ℕ). 0 ∷ l) (tabulate_zero n)

-- one more at the end
pub tabulate_snoc : (n : ℕ) (f : ℕ → ℕ) → tabulate (suc n) f ≡ tabulate n f ++ (f n ∷ [])
unfolding tabulate
tabulate_snoc zero f = refl
tabulate_snoc (suc n) f = ap (λ (l : List ℕ). f 0 ∷ l) (tabulate_snoc n (λ i. f (suc i)))

-- what stands at an index, whatever comes behind
pub tabulate_at : (n : ℕ) (f : ℕ → ℕ) (rest : List ℕ) (v : ℕ) → v < n → get_or (tabulate n f ++ rest) v 0 ≡ f v
unfolding tabulate
tabulate_at zero f rest v l = absurd (omega arith)
tabulate_at (suc n) f rest zero l = refl
tabulate_at (suc n) f rest (suc v) l = tabulate_at n (λ i. f (suc i)) rest v (omega arith)

pub get_or_tabulate : (n : ℕ) (f : ℕ → ℕ) (v : ℕ) → v < n → get_or (tabulate n f) v 0 ≡ f v
unfolding tabulate
get_or_tabulate zero f v l = absurd (omega arith)
get_or_tabulate (suc n) f zero l = refl
get_or_tabulate (suc n) f (suc v) l = get_or_tabulate n (λ i. f (suc i)) v (omega arith)

-- one entry is changed
pub tabulate_set : (n : ℕ) (f g : ℕ → ℕ) (rest : List ℕ) (v : ℕ) → ((j : ℕ) → j < n → ¬ (j ≡ v) → f j ≡ g j) → v < n
    → set (tabulate n f ++ rest) v (g v) ≡ tabulate n g ++ rest
unfolding tabulate
tabulate_set zero f g rest v s l = absurd (omega arith)
tabulate_set (suc n) f g rest zero s l =
    ap (λ (t : List ℕ). g 0 ∷ (t ++ rest))
    (tabulate_same n (λ i. f (suc i)) (λ i. g (suc i)) (λ i k. s (suc i) (omega arith) (λ q. omega arith)))
tabulate_set (suc n) f g rest (suc v) s l =
    ap₂ (λ (x : ℕ) (t : List ℕ). x ∷ t) (s 0 (omega arith) (λ q. omega arith))
    (tabulate_set n (λ i. f (suc i)) (λ i. g (suc i)) rest v (λ j k d. s (suc j) (omega arith) (λ q. d (omega arith))) (omega arith))

pub set_tabulate : (n : ℕ) (f g : ℕ → ℕ) (k v : ℕ) → k < n → v ≡ g k → ((i : ℕ) → ¬ (i ≡ k) → f i ≡ g i)
    → set (tabulate n f) k v ≡ tabulate n g
unfolding tabulate
set_tabulate zero f g k v l e h = absurd (omega arith)
set_tabulate (suc n) f g zero v l e h =
    ap₂ (λ (x : ℕ) (t : List ℕ). x ∷ t) e
    (tabulate_same n (λ i. f (suc i)) (λ i. g (suc i)) (λ i k. h (suc i) (λ q. omega arith)))
set_tabulate (suc n) f g (suc k) v l e h =
    ap₂ (λ (x : ℕ) (t : List ℕ). x ∷ t) (h 0 (λ q. omega arith))
    (set_tabulate n (λ i. f (suc i)) (λ i. g (suc i)) k v (omega arith) e (λ i d. h (suc i) (λ q. d (omega arith))))
