-- Words that are stored one by one, and areas that are put together of stored parts.
use Rattle.atoms.proofs.Prelude.{◌≡◌, sym, ap, ◌∙◌, List, ◌++◌, append_assoc, ℕ, ◌+◌, ◌≤◌, ◌<◌, arith, add-one, length, take, drop, get_or}
use Rattle.atoms.proofs.Prelude.{set, get_or-append, paste, paste-suc, length-paste, take-paste, take_all, take_at, drop_at}

pub stored_next : (d : List ℕ) (at : ℕ) (s l : List ℕ) (i : ℕ) → at + length s ≤ length d → i < length s → l ≡ paste d at s i
    → set l (at + i) (get_or s i 0) ≡ paste d at s (i + 1)
stored_next d at s l i fits k e = rw (e, add-one) (paste-suc d at s i 0 (omega arith) k)

-- the front of an area up to the end of what was stored last
pub stored_front : (d : List ℕ) (at : ℕ) (s : List ℕ) {e : List ℕ} {n : ℕ} → at ≤ length d → at + length s ≡ n
    → e ≡ paste d at s (length s) → take n e ≡ take at d ++ s
stored_front d at s l k p =
    rw (p, sym k) (take-paste d at s (length s) l (omega arith) ∙ ap (λ (t : List ℕ). take at d ++ t) (take_all (length s) s (omega arith)))

-- two parts, one behind the other, in front of an area
module _ (first second rest : List ℕ) {area : List ℕ} {n m : ℕ} (long : length first ≡ n) (long₂ : length second ≡ m)
    (is : area ≡ (first ++ second) ++ rest) where
  parts : area ≡ first ++ (second ++ rest)
  parts = is ∙ append_assoc first second rest

  pub first_at : (i : ℕ) → i < n → get_or area i 0 ≡ get_or first i 0
  first_at i l = ap (λ (a : List ℕ). get_or a i 0) parts ∙ get_or-append first (second ++ rest) 0 i (omega (arith, long, l))

  pub second_part : take m (drop n area) ≡ second
  second_part =
      ap (λ (a : List ℕ). take m (drop n a)) parts ∙ ap (take m) (drop_at first (second ++ rest) n long) ∙ take_at second rest m long₂

-- an area into which three parts were stored, one behind the other
pub stored_parts : (d h b w : List ℕ) {d₁ d₂ d₃ : List ℕ} {n k : ℕ} → length h ≡ n → n + length b ≡ k → k ≤ length d
    → d₁ ≡ paste d 0 h (length h) → d₂ ≡ paste d₁ n b (length b) → d₃ ≡ paste d₂ k w (length w)
    → d₃ ≡ (h ++ b) ++ (take (length w) w ++ drop (k + length w) d₂)
stored_parts d h b w {d₁} {d₂} {d₃} {n} {k} l m fits e f g =
    g ∙ ap (λ (t : List ℕ). t ++ take (length w) w ++ drop (k + length w) d₂) front ∙ append_assoc (h ++ b) (take (length w) w) _
  where
    same : length d₁ ≡ length d
    same = ap length e ∙ length-paste d 0 h (length h) (omega (arith, l, m, fits)) (omega arith)

    front : take k d₂ ≡ h ++ b
    front =
        stored_front d₁ n b (omega (arith, same, m, fits)) m f
        ∙ ap (λ (t : List ℕ). t ++ b) (stored_front d 0 h {n = n} (omega arith) (omega (arith, l)) e)
