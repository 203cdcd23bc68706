-- Nodes: what they hand back.
use Rattle.searching.proofs.Prelude.{◌≡◌, refl, sym, ◌∙◌, Bool, true, true≢false, List, ℕ, ◌<◌, ◌≤◌, LIST_WORDS, State, too_many}
use Rattle.searching.proofs.Prelude.{enough as enough-done, HandedUp, Found}
use Rattle.learning.specs.Reason.{Lifted}
use Rattle.searching.specs.Node.{Finishes}
use Rattle.searching.specs.Witness.{enough}
use Rattle.searching.proofs.Witnesses.{enough_met}

-- the same count and witness, and the pair that was lifted
pub handed_up : {K : ℕ → Type 0} {found r : Found} {before after : List ℕ} {n : State}
    → r ≡ record { count = found.count; nogood = n; witness = found.witness } → Lifted K found.nogood before after n
    → HandedUp K found before after r
handed_up e l = rw e (record { same_count = refl; same_witness = refl; lifted = l })

-- whether nothing more is to be found
pub finished : {found : Found} {left : ℕ} → LIST_WORDS < found.count → Finishes found left true
finished l = record { done = λ e. too_many l; room = λ e. absurd (true≢false e) }

pub finishes_met : {found : Found} {left : ℕ} {answer : Bool} → found.count ≤ LIST_WORDS → answer ≡ enough found.witness left
    → Finishes found left answer
finishes_met {found} l e = record {
  done = λ f. let m = enough_met found.witness (sym e ∙ f) in enough-done l m.0 m.1;
  room = λ f. l;
}
