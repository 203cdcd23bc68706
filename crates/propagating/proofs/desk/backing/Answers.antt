-- They are some of the rules.
use Rattle.propagating.proofs.Prelude.{◌≡◌, ℕ, ◌⊆◌, ◌∩◌, cut_left}
use Rattle.propagating.proofs.desk.backing.Goals as goal

cut_within : (w x : ℕ) {r : ℕ} → r ≡ w ∩ x → r ⊆ w
cut_within w x e = record { each = λ i h. cut_left w x (rw e at h) }

pub returns : goal.returns
returns c = record { within = cut_within _ _ c.cut.ensures; is = c.cut.ensures }
