-- Inner: from one to the next until none is left.
use Rattle.std.specs.Prelude.{List, [], ◌∷◌, ℕ, None, Option, Some}
use Rattle.finding.specs.Least.{LeastOf, Behind}

-- each is the least with Q behind the one before, and behind the last there is none
pub data Walk (Q : ℕ → Type 0) : Option ℕ → List ℕ → Type 0 where
  ends : {from : Option ℕ} → LeastOf (λ M. Q M × Behind from M) None → Walk Q from []
  goes : {from : Option ℕ} {M : ℕ} {Ms : List ℕ} → LeastOf (λ N. Q N × Behind from N) (Some M) → Walk Q (Some M) Ms → Walk Q from (M ∷ Ms)
