-- What is wired: what belongs to the list, where the pilots follow their tables.
use Rattle.searching.proofs.Prelude.{Bool, false, false≢true, List, ℕ, Decides, FollowAll, Wired, Belongs, Job}
use Rattle.propagating.specs.Desk.{pilots_of}

module _ {rules table counts desk : List ℕ} {unit : Job} {M : ℕ} where
  pub wired_if : {r : Bool} → FollowAll rules (pilots_of desk) M → Decides (Belongs rules table counts desk unit M) r
      → Decides (Wired rules table counts desk unit M) r
  wired_if f d = record { yes = λ e. record { belongs = d.yes e; follow = f }; no = λ e s. d.no e s.belongs }

  pub not_wired : ¬ FollowAll rules (pilots_of desk) M → Decides (Wired rules table counts desk unit M) false
  not_wired n = record { yes = λ e. absurd (false≢true e); no = λ e s. n s.follow }
