-- "Errors, tried first": what `unless_bad` gives where the first bad reading is known, or that there is none.
use Rattle.packed_decimal.proofs.Prelude.{◌≡◌, refl, sym, ap, ◌∙◌, Bool, true, false, not, [], ◌∷◌, ◌⊎◌, inl, inr, ℕ, ◌≤◌, ◌<◌, arith, dec_lt, lt-ltb}
use Rattle.packed_decimal.proofs.Prelude.{ℕ_discrete, le-ltb, not-true, not-false, Decides, Least, lowest, is_reading, unless_bad, unless_bad_of, bad_of}
use Rattle.packed_decimal.proofs.Prelude.{Refusal}
use Rattle.packed_decimal.proofs.Prelude.{BadReading, Ok, Err, test_cases}
use Rattle.atoms.proofs.Collected.{lowest_is, lowest_none, lowest_here, lowest_least}

module _ {A : Type 0} (n : ℕ) (bad : ℕ → Bool) (answer : A) where
  pub unless_refused_lem : lowest n bad < n → unless_bad n bad answer ≡ Err (BadReading (lowest n bad))
  unfolding unless_bad
  unless_refused_lem l = rw (lt-ltb (lowest n bad) n l, unless_bad) refl

  pub unless_answered : n ≤ lowest n bad → unless_bad n bad answer ≡ Ok answer
  unfolding unless_bad
  unless_answered l = rw (le-ltb (lowest n bad) n l, unless_bad) refl

  -- the first that is bad
  pub unless_first : (i : ℕ) → i < n → bad i ≡ true → ((j : ℕ) → j < i → bad j ≡ false) → unless_bad n bad answer ≡ Err (BadReading i)
  unless_first i l b f =
      let first : lowest n bad ≡ i = lowest_is n bad i l b f in
      unless_refused_lem (omega arith) ∙ ap (λ (s : ℕ). Err (BadReading s)) first

  -- none is bad
  pub unless_none : ((j : ℕ) → j < n → bad j ≡ false) → unless_bad n bad answer ≡ Ok answer
  unless_none f = let none : lowest n bad ≡ n = lowest_none n bad f in unless_answered (omega arith)

  -- "Errors, tried first": none is bad and the answer is given, or it is the refusal for the first that is
  pub unless_right : {Bad : ℕ → Type 0} → ((i : ℕ) → Decides (Bad i) (bad i))
      → (((i : ℕ) → i < n → ¬ Bad i) × (unless_bad n bad answer ≡ Ok answer))
      ⊎ ((i : ℕ) × (i < n) × Least Bad i × (unless_bad n bad answer ≡ Err (BadReading i)))
  unless_right {Bad} d = go (dec_lt (lowest n bad) n)
    where
      go : Dec (lowest n bad < n) → (((i : ℕ) → i < n → ¬ Bad i) × (unless_bad n bad answer ≡ Ok answer))
          ⊎ ((i : ℕ) × (i < n) × Least Bad i × (unless_bad n bad answer ≡ Err (BadReading i)))
      go (yes l) = inr (
        lowest n bad,
        l,
        record { here = (d (lowest n bad)).yes (lowest_here n bad l); least = λ q k. (d q).no (lowest_least n bad q k) },
        unless_refused_lem l,
      )
      go (no l) = inl (λ i k. (d i).no (lowest_least n bad i (omega arith)), unless_answered (omega arith))

-- ---- what a test of the code says of a word

module _ (word : ℕ) {t : Bool} (e : t ≡ is_reading word) where
  pub tested_bad : not t ≡ true → is_reading word ≡ false
  tested_bad n = sym e ∙ not-true t n

  pub tested_good : not t ≡ false → is_reading word ≡ true
  tested_good n = sym e ∙ not-false t n

-- ---- two readings

module _ {A : Type 0} (a b : ℕ) (answer : A) where
  pub pair_first : is_reading a ≡ false → unless_bad_of (a ∷ b ∷ []) answer ≡ Err (BadReading 0)
  pair_first ea = unless_first 2 (bad_of (a ∷ b ∷ [])) answer 0 (omega arith) (ap not ea) (λ j l. absurd (omega arith))

  pub pair_second : is_reading a ≡ true → is_reading b ≡ false → unless_bad_of (a ∷ b ∷ []) answer ≡ Err (BadReading 1)
  pair_second ea eb = unless_first 2 (bad_of (a ∷ b ∷ [])) answer 1 (omega arith) (ap not eb) before
    where
      before : (j : ℕ) → j < 1 → bad_of (a ∷ b ∷ []) j ≡ false
      before j l = let z : j ≡ 0 = omega arith in rw z (ap not ea)

  pub pair_none : is_reading a ≡ true → is_reading b ≡ true → unless_bad_of (a ∷ b ∷ []) answer ≡ Ok answer
  pair_none ea eb = unless_none 2 (bad_of (a ∷ b ∷ [])) answer neither
    where
      neither : (j : ℕ) → j < 2 → bad_of (a ∷ b ∷ []) j ≡ false
      neither j l = go (ℕ_discrete j 0)
        where
          go : Dec (j ≡ 0) → bad_of (a ∷ b ∷ []) j ≡ false
          go (yes z) = rw z (ap not ea)
          go (no n) = let z : j ≡ 1 = omega arith in rw z (ap not eb)

  -- where neither is bad both are readings
  pub pair_good : {x : A} → Ok x ≡ unless_bad_of (a ∷ b ∷ []) answer → (is_reading a ≡ true) × (is_reading b ≡ true)
  pair_good {x} e = go (test_cases (is_reading a)) (test_cases (is_reading b))
    where
      go : (is_reading a ≡ true) ⊎ (is_reading a ≡ false) → (is_reading b ≡ true) ⊎ (is_reading b ≡ false)
          → (is_reading a ≡ true) × (is_reading b ≡ true)
      go (inl ga) (inl gb) = (ga, gb)
      go (inl ga) (inr nb) = let refused = pair_second ga nb in absurd (cc)
      go (inr na) d = let refused = pair_first na in absurd (cc)

-- what is refused does not depend on the answer
pub pair_refused : {A B : Type 0} (a b : ℕ) (x : A) (y : B) {r : Refusal} → Err r ≡ unless_bad_of (a ∷ b ∷ []) x → Err r ≡ unless_bad_of (a ∷ b ∷ []) y
pair_refused {A} {B} a b x y {r} e = go (dec_lt (lowest 2 (bad_of (a ∷ b ∷ []))) 2)
  where
    go : Dec (lowest 2 (bad_of (a ∷ b ∷ [])) < 2) → Err r ≡ unless_bad_of (a ∷ b ∷ []) y
    go (yes l) =
        let one = unless_refused_lem 2 (bad_of (a ∷ b ∷ [])) x l in
        let other = unless_refused_lem 2 (bad_of (a ∷ b ∷ [])) y l in
        cc
    go (no l) = let answered = unless_answered 2 (bad_of (a ∷ b ∷ [])) x (omega arith) in absurd (cc)
