-- The loop that is left with the constraints: one rule of it.
use Rattle.blaming.proofs.Prelude.{◌≡◌, refl, Bool, true, false, ℕ, eqb, ◌∖◌, atom, Lowest, Decides, decided_true, decided_false, decides_equal, Sifts}
use Rattle.blaming.proofs.Prelude.{sifts_keep, sifts_drop}
use Rattle.blaming.specs.Sifted.{unless_headed}

pub headless_stays : (head r word : ℕ) → head ≡ 0 → word ≡ unless_headed head r word
unfolding unless_headed
headless_stays head r word e = rw (decided_true (decides_equal head 0) e, unless_headed)

pub headed_goes : (head r word : ℕ) → ¬ (head ≡ 0) → word ∖ atom r ≡ unless_headed head r word
unfolding unless_headed
headed_goes head r word n = rw (decided_false (decides_equal head 0) n, unless_headed)

pub sifts_unless : (heads : ℕ → ℕ) {which word rest rest' word' r : ℕ} → Sifts (λ i. heads i ≡ 0) which word rest → Lowest rest r
    → rest' ≡ rest ∖ atom r → word' ≡ unless_headed (heads r) r word → Sifts (λ i. heads i ≡ 0) which word' rest'
unfolding unless_headed
sifts_unless heads {which} {word} {rest} {rest'} {word'} {r} s low e d = go (eqb (heads r) 0) (decides_equal (heads r) 0) d
  where
    go : (b : Bool) → Decides (heads r ≡ 0) b → word' ≡ elim b [ true ↦ word | false ↦ word ∖ atom r ] → Sifts (λ i. heads i ≡ 0) which word' rest'
    go true b q = rw q (sifts_keep s low e (b.yes refl))
    go false b q = sifts_drop s low e q (b.no refl)
