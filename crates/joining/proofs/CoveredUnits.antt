-- Units whose head atoms cover a word.
use Rattle.joining.proofs.Prelude.{◌≡◌, refl, sym, ◌∙◌, Bool, true, false, false≢true, List, ℕ, ◌^◌, ◌≤◌, ◌<◌, arith, length, get_or, Has, ◌⊆◌, subset}
use Rattle.joining.proofs.Prelude.{Lowest, decides_subset, Taking, taking_end, taken_lt, MAX_UNITS}
use Rattle.atoms.specs.Bounded.{Decides}
use Rattle.atoms.proofs.Tests.{decides}
use Rattle.joining.specs.Nearest.{Covered}

module _ (heads : List ℕ) (units word : ℕ) where
  -- as the test of a unit says
  pub covered_here : (v : ℕ) {b : Bool} → Has units v → b ≡ subset word (get_or heads v 0) → b ≡ true → Decides (Covered heads units word) true
  covered_here v h t e = decides true (λ f. record { by = v; unit = h; within = (decides_subset word (get_or heads v 0)).yes (sym t ∙ e) }) (λ c. refl)

  pub covered_nowhere : {rest : ℕ} → Taking units rest (λ v. ¬ (word ⊆ get_or heads v 0)) → rest ≡ 0 → Decides (Covered heads units word) false
  covered_nowhere t e = decides false (λ f. absurd (false≢true f)) (λ c. absurd (taking_end t e c.by c.unit c.within))

-- the head atoms of a unit that a loop takes are there
pub unit_there : (heads : List ℕ) {units rest v : ℕ} → MAX_UNITS ≤ length heads → units < 2 ^ MAX_UNITS → rest ⊆ units → Lowest rest v → v < length heads
unit_there heads l s f low = omega (arith, taken_lt MAX_UNITS s f low)

-- a subset test that was read said no
pub not_within : (a w : ℕ) {b : Bool} → b ≡ subset a w → b ≡ false → ¬ (a ⊆ w)
not_within a w t e = (decides_subset a w).no (sym t ∙ e)
