-- The least with a property: there is one answer, and the lowest number below a bound that passes a test is it.
use Rattle.finding.proofs.Prelude.{◌≡◌, refl, ap, Bool, ℕ, ◌≤◌, ◌<◌, arith, dec_lt, Decides, decided_true, not_both, Option, Some, None, LeastOf}
use Rattle.finding.proofs.Prelude.{least, none}
use Rattle.atoms.specs.Collected.{lowest}
use Rattle.atoms.proofs.Collected.{lowest_here, lowest_least}

pub least_only : {Q : ℕ → Type 0} {v w : Option ℕ} → LeastOf Q v → LeastOf Q w → v ≡ w
least_only (least {M = M} q l) (least {M = N} r k) = ap Some (same (l N r) (k M q))
  where
    same : {x y : ℕ} → x ≤ y → y ≤ x → x ≡ y
    same h g = omega arith
least_only (least {M = M} q l) (none n) = absurd (n M q)
least_only (none n) (least {M = M} q l) = absurd (n M q)
least_only (none n) (none m) = refl

module _ {Q : ℕ → Type 0} (test : ℕ → Bool) (top : ℕ) (tells : (M : ℕ) → Decides (Q M) (test M)) where
  lower : (N : ℕ) → N < lowest top test → ¬ Q N
  lower N l q = not_both (decided_true (tells N) q) (lowest_least top test N l)

  pub lowest_met : lowest top test < top → LeastOf Q (Some (lowest top test))
  lowest_met l = least ((tells (lowest top test)).yes (lowest_here top test l)) (λ N q. go N q (dec_lt N (lowest top test)))
    where
      go : (N : ℕ) → Q N → Dec (N < lowest top test) → lowest top test ≤ N
      go N q (yes k) = absurd (lower N k q)
      go N q (no k) = omega arith

  -- where none is from the bound on
  pub lowest_missed : top ≤ lowest top test → ((N : ℕ) → Q N → N < top) → LeastOf Q None
  lowest_missed h below = none (λ N q. let l = below N q in lower N (omega arith) q)
