-- Runs of 256 words one behind the other: their length, what stands at an index, and what a store changes.
use Rattle.demands.proofs.Prelude.{◌≡◌, refl, ap, ap₂, ◌∙◌, List, ◌++◌, append_assoc, ℕ, zero, suc, ◌+◌, ◌*◌, ◌≤◌, ◌<◌, arith, length, drop, get_or}
use Rattle.demands.proofs.Prelude.{replicate, length-append, replicate-append-replicate, get_or-append, paste, take_all, take-append-add}
use Rattle.demands.proofs.Prelude.{drop-append-add, drop_at, get_or-append-add, LIST_WORDS, runs}

pub runs_long : (n : ℕ) (f : ℕ → List ℕ) → ((i : ℕ) → length (f i) ≡ LIST_WORDS) → length (runs n f) ≡ LIST_WORDS * n
unfolding runs
runs_long zero f h = refl
runs_long (suc n) f h =
    length-append (f 0) (runs n (λ i. f (suc i))) ∙ omega (arith, h 0, runs_long n (λ i. f (suc i)) (λ i. h (suc i)))

pub runs_same : (n : ℕ) (f g : ℕ → List ℕ) → ((i : ℕ) → f i ≡ g i) → runs n f ≡ runs n g
unfolding runs
runs_same zero f g h = refl
runs_same (suc n) f g h = ap₂ ◌++◌ (h 0) (runs_same n (λ i. f (suc i)) (λ i. g (suc i)) (λ i. h (suc i)))

pub runs_zero : (n : ℕ) → runs n (λ i. replicate {A = ℕ} LIST_WORDS 0) ≡ replicate (LIST_WORDS * n) 0
unfolding runs
runs_zero zero = refl
runs_zero (suc n) =
    let e : LIST_WORDS + LIST_WORDS * n ≡ LIST_WORDS * suc n = omega arith in
    ap (λ (l : List ℕ). replicate {A = ℕ} LIST_WORDS 0 ++ l) (runs_zero n) ∙ replicate-append-replicate LIST_WORDS (LIST_WORDS * n) 0
    ∙ ap (λ (k : ℕ). replicate {A = ℕ} k 0) e

-- word i of run v
pub runs_at : (n : ℕ) (f : ℕ → List ℕ) (rest : List ℕ) (v i : ℕ) → ((j : ℕ) → length (f j) ≡ LIST_WORDS) → v < n → i < LIST_WORDS
    → get_or (runs n f ++ rest) (LIST_WORDS * v + i) 0 ≡ get_or (f v) i 0
unfolding runs
runs_at zero f rest v i h l k = absurd (omega arith)
runs_at (suc n) f rest zero i h l k =
    let e : LIST_WORDS * 0 + i ≡ i = omega arith in
    rw (append_assoc, e) (get_or-append (f 0) (runs n (λ j. f (suc j)) ++ rest) 0 i (omega (arith, h 0)))
runs_at (suc n) f rest (suc v) i h l k =
    let e : LIST_WORDS * suc v + i ≡ length (f 0) + (LIST_WORDS * v + i) = omega (arith, h 0) in
    rw (append_assoc, e, get_or-append-add) (runs_at n (λ j. f (suc j)) rest v i (λ j. h (suc j)) (omega arith) k)

-- the words from run v on begin with it
pub runs_from : (n : ℕ) (f : ℕ → List ℕ) (rest : List ℕ) (v : ℕ) → ((j : ℕ) → length (f j) ≡ LIST_WORDS) → v < n
    → (behind : List ℕ) × (drop (LIST_WORDS * v) (runs n f ++ rest) ≡ f v ++ behind)
unfolding runs
runs_from zero f rest v h l = absurd (omega arith)
runs_from (suc n) f rest zero h l = (runs n (λ j. f (suc j)) ++ rest, append_assoc (f 0) (runs n (λ j. f (suc j))) rest)
runs_from (suc n) f rest (suc v) h l =
    let r = runs_from n (λ j. f (suc j)) rest v (λ j. h (suc j)) (omega arith) in
    let e : LIST_WORDS * suc v ≡ length (f 0) + LIST_WORDS * v = omega (arith, h 0) in
    (r.0, rw (append_assoc, e, drop-append-add) r.1)

-- a list is stored at the front, or behind some words
paste_front : (xs ys zs : List ℕ) (k : ℕ) → length xs ≡ k → length zs ≡ k → paste (xs ++ ys) 0 zs k ≡ zs ++ ys
paste_front xs ys zs k e h =
    let z : 0 + k ≡ k = omega arith in
    let all : length zs ≤ k = omega arith in
    rw (z, take_all, drop_at xs ys k e)

paste_behind : (xs ys zs : List ℕ) (b k : ℕ) → paste (xs ++ ys) (length xs + b) zs k ≡ xs ++ paste ys b zs k
paste_behind xs ys zs b k =
    let e : length xs + b + k ≡ length xs + (b + k) = omega arith in
    rw (take-append-add, e, drop-append-add) (simp append_assoc)

-- one run is replaced
pub runs_paste : (n : ℕ) (f g : ℕ → List ℕ) (rest : List ℕ) (v : ℕ) → ((j : ℕ) → length (f j) ≡ LIST_WORDS) → length (g v) ≡ LIST_WORDS
    → ((j : ℕ) → ¬ (j ≡ v) → f j ≡ g j) → v < n → paste (runs n f ++ rest) (LIST_WORDS * v) (g v) LIST_WORDS ≡ runs n g ++ rest
unfolding runs
runs_paste zero f g rest v h k s l = absurd (omega arith)
runs_paste (suc n) f g rest zero h k s l =
    rw (append_assoc (f 0), append_assoc (g 0), runs_same n (λ j. f (suc j)) (λ j. g (suc j)) (λ j. s (suc j) (λ e. omega arith)))
    (paste_front (f 0) (runs n (λ j. g (suc j)) ++ rest) (g 0) LIST_WORDS (h 0) k)
runs_paste (suc n) f g rest (suc v) h k s l =
    let e : LIST_WORDS * suc v ≡ length (f 0) + LIST_WORDS * v = omega (arith, h 0) in
    rw (append_assoc (f 0), append_assoc (g 0), ← s 0 (λ q. omega arith), e) (
    paste_behind (f 0) (runs n (λ j. f (suc j)) ++ rest) (g (suc v)) (LIST_WORDS * v) LIST_WORDS
    ∙ ap (λ (l : List ℕ). f 0 ++ l)
    (runs_paste n (λ j. f (suc j)) (λ j. g (suc j)) rest v (λ j. h (suc j)) k (λ j d. s (suc j) (λ q. d (omega arith))) (omega arith))
    )
