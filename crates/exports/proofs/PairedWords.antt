-- Two words handed back as far as there is room.
use Rattle.exports.proofs.Prelude.{◌≡◌, refl, List, [], ◌∷◌, ℕ, ◌<◌, arith, length, set, take-nil, copied}

module _ (a b : ℕ) where
  pub no_room : (found : List ℕ) → length found ≡ 0 → found ≡ copied (a ∷ b ∷ []) found
  unfolding copied
  no_room [] e = refl
  no_room (x ∷ found) e = absurd (omega arith)

  pub room_for_one : (found : List ℕ) → ¬ (length found ≡ 0) → length (set found 0 a) ≡ 1 → set found 0 a ≡ copied (a ∷ b ∷ []) found
  unfolding copied
  room_for_one [] n e = absurd (n refl)
  room_for_one (x ∷ []) n e = refl
  room_for_one (x ∷ y ∷ found) n e = absurd (omega arith)

  pub two_fit : (found : List ℕ) → ¬ (length found ≡ 0) → ¬ (length (set found 0 a) ≡ 1) → 1 < length (set found 0 a)
  two_fit [] n m = absurd (n refl)
  two_fit (x ∷ []) n m = absurd (m refl)
  two_fit (x ∷ y ∷ found) n m = omega arith

  pub room_for_two : (found : List ℕ) → ¬ (length found ≡ 0) → ¬ (length (set found 0 a) ≡ 1)
      → set (set found 0 a) 1 b ≡ copied (a ∷ b ∷ []) found
  unfolding copied
  room_for_two [] n m = absurd (n refl)
  room_for_two (x ∷ []) n m = absurd (m refl)
  room_for_two (x ∷ y ∷ found) n m = rw (take-nil {A = ℕ} (length found)) refl
