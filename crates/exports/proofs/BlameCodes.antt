-- What code and word tell a host of the constraints that empty a plan, from what `blame_plan` promises.
use Rattle.exports.proofs.Prelude.{refl, List, ℕ, IsByte, All, Reply, Result}
use Rattle.plan.specs.declared.fault.Fault.{Fault}
use Rattle.blaming.specs.Blamed.{Blamed, blame_code}
use Rattle.blaming.specs.declared.Blame.{Blame}
use Rattle.exports.specs.Blame.{word_in, BlameHanded}
use Rattle.exports.proofs.HostReplies.{replied}

pub blame_handed : (bytes : List ℕ) {found found' : List ℕ} {r : ℕ} {said : Result Blame Fault} → All IsByte bytes → Blamed bytes said
    → Reply blame_code word_in said found found' r → BlameHanded bytes found found' r
blame_handed bytes small b t = record { replied = replied bytes (λ _. refl) (λ _. refl) small b.answered t; meaning = b.meaning }
