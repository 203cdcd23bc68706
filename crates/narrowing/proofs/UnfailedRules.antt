-- Whether an atom of its own makes a rule's body fail.
use Rattle.narrowing.proofs.Prelude.{◌≡◌, sym, Bool, true, false, not, true≢false, List, ℕ, not-true, not-false, Apart, apart}
use Rattle.narrowing.proofs.Prelude.{Decides, decides_apart, decides_iff, lent, negative, State, Unfailed}

module _ (rules : List ℕ) (r : ℕ) (s : State) {p : ℕ} {t : Bool} (e : p ≡ (lent rules).positive r) (f : t ≡ apart p s.dropped) where
  positive_decided : Decides (Apart ((lent rules).positive r) s.dropped) t
  positive_decided = rw (f, e) (decides_apart ((lent rules).positive r) s.dropped)

  pub failed : not t ≡ true → Decides (Unfailed rules r s) false
  failed g = record { yes = λ h. absurd (true≢false (sym h)); no = λ h u. positive_decided.no (not-true t g) u.positive }

  pub unfailed : {n : ℕ} {b : Bool} → not t ≡ false → n ≡ negative rules r → b ≡ apart n s.up → Decides (Unfailed rules r s) b
  unfailed g h k =
      decides_iff (λ (a : Apart (negative rules r) s.up). record { positive = positive_decided.yes (not-false t g); negative = a }) (λ u. u.negative)
      (rw (k, h) (decides_apart (negative rules r) s.up))
