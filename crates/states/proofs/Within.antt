-- States within others, and what completes them.
use Rattle.states.proofs.Prelude.{◌≡◌, sym, ◌∙◌, Bool, true, false, false≢true, ℕ, subset, ◌∩◌, subset_trans, cut_left, decides_subset, Completes}
use Rattle.states.proofs.Prelude.{Within, State}
use Rattle.atoms.specs.Bounded.{Decides}

-- a completion of the larger completes the smaller
pub completes_within : {n s : State} {N : ℕ} → Within n s → Completes s N → Completes n N
completes_within w c = record {
  has_up = subset_trans w.up_within c.has_up;
  no_dropped = record { none = λ i d. c.no_dropped.none i (w.dropped_within.each i d) };
}

-- a state cut to some atoms lies within it
pub cut_within : (s : State) (w : ℕ) → Within (record { up = s.up ∩ w; dropped = s.dropped ∩ w }) s
cut_within s w = record {
  up_within = record { each = λ i h. cut_left s.up w h };
  dropped_within = record { each = λ i h. cut_left s.dropped w h };
}

-- the test of both words
pub within_decided : (n s : State) {r : Bool} → subset n.up s.up ≡ true → r ≡ subset n.dropped s.dropped → Decides (Within n s) r
within_decided n s u e = record {
  yes = λ f. record {
    up_within = (decides_subset n.up s.up).yes u;
    dropped_within = (decides_subset n.dropped s.dropped).yes (sym e ∙ f);
  };
  no = λ f w. (decides_subset n.dropped s.dropped).no (sym e ∙ f) w.dropped_within;
}

pub not_within : (n s : State) → subset n.up s.up ≡ false → Decides (Within n s) false
not_within n s u = record {
  yes = λ e. absurd (false≢true e);
  no = λ e w. (decides_subset n.up s.up).no u w.up_within;
}
