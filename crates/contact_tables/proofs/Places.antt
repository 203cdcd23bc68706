-- The places of a table's inputs: they rise from input to input, and each number up to the last place is one.
use Rattle.contact_tables.proofs.Prelude.{◌≡◌, refl, ap, ◌∙◌, ℕ, zero, suc, ◌+◌, ◌<◌, ◌≤◌, dec_lt, ℕ_discrete, arith, digit, Has, has_dec, place}
use Rattle.atoms.proofs.Digits.{digit_lt}

-- an input raises the place of what is above it by one, another atom does not
pub place_input : (w a : ℕ) → Has w a → place w (suc a) ≡ place w a + 1
unfolding place
place_input w a h = ap (λ (d : ℕ). place w a + d) h.bit

pub place_other : (w a : ℕ) → ¬ Has w a → place w (suc a) ≡ place w a
unfolding place
place_other w a n =
    let l : digit w a < 2 = digit_lt w a in
    let z : ¬ (digit w a ≡ 1) = λ e. n (record { bit = e }) in
    omega arith

pub place_le : (w a b : ℕ) → a ≤ b → place w a ≤ place w b
place_le w a zero l = let e : a ≡ 0 = omega arith in rw e (omega arith)
place_le w a (suc b) l = go (ℕ_discrete a (suc b)) (has_dec w b) (λ m. place_le w a b m)
  where
    go : Dec (a ≡ suc b) → Dec (Has w b) → (a ≤ b → place w a ≤ place w b) → place w a ≤ place w (suc b)
    go (yes e) d rest = rw e (omega arith)
    go (no n) (yes h) rest = let m = rest (omega arith) in let e = place_input w b h in omega arith
    go (no n) (no k) rest = let m = rest (omega arith) in let e = place_other w b k in omega arith

-- an input's place is below that of anything above it
pub place_lt : (w a b : ℕ) → Has w a → a < b → place w a < place w b
place_lt w a b h l = let e = place_input w a h in let m = place_le w (suc a) b (omega arith) in omega arith

-- no two inputs have the same place
pub place_one : (w a b : ℕ) → Has w a → Has w b → place w a ≡ place w b → a ≡ b
place_one w a b h k e = go (dec_lt a b) (dec_lt b a)
  where
    go : Dec (a < b) → Dec (b < a) → a ≡ b
    go (yes l) d = let m = place_lt w a b h l in absurd (omega arith)
    go (no n) (yes l) = let m = place_lt w b a k l in absurd (omega arith)
    go (no n) (no m) = omega arith

-- where there is no input between, the place stays
pub place_gap : (w b a : ℕ) → b ≤ a → ((i : ℕ) → b ≤ i → i < a → ¬ Has w i) → place w a ≡ place w b
place_gap w b zero l gap = let e : b ≡ 0 = omega arith in rw e refl
place_gap w b (suc a) l gap = go (ℕ_discrete b (suc a)) (λ m. place_gap w b a m (λ i p q. gap i p (omega arith)))
  where
    go : Dec (b ≡ suc a) → (b ≤ a → place w a ≡ place w b) → place w (suc a) ≡ place w b
    go (yes e) rest = rw e refl
    go (no n) rest = place_other w a (gap a (omega arith) (omega arith)) ∙ rest (omega arith)

-- each number below the place of b is the place of an input below b
pub place_found : (w b k : ℕ) → k < place w b → (a : ℕ) × (a < b) × Has w a × (place w a ≡ k)
unfolding place
place_found w zero k l = absurd (omega arith)
place_found w (suc b) k l = go (dec_lt k (place w b)) (has_dec w b) (λ m. place_found w b k m)
  where
    go : Dec (k < place w b) → Dec (Has w b) → (k < place w b → (a : ℕ) × (a < b) × Has w a × (place w a ≡ k))
        → (a : ℕ) × (a < suc b) × Has w a × (place w a ≡ k)
    go (yes m) d rest = let r = rest m in (r.0, omega (arith, r.1), r.2, r.3)
    go (no n) (yes h) rest = let e = place_input w b h in (b, omega arith, h, omega arith)
    go (no n) (no m) rest = let e = place_other w b m in absurd (omega arith)
