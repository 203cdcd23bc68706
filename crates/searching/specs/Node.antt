-- Inner: what is found below a node of the search.
use Rattle.std.specs.Prelude.{◌≡◌, Bool, true, false, ℕ, ◌<◌, ◌≤◌}
use mathlib.Core.List.{List, Memᴰ}
use Rattle.plan.specs.Limits.{LIST_WORDS}
use Rattle.atoms.specs.Cuts.{CutOf}
use Rattle.states.specs.declared.state.State.{State}
use Rattle.learning.specs.Nogood.{Nogood}
use Rattle.learning.specs.Reason.{Remembers, Lifted}
use Rattle.searching.specs.Listing.{Gathered, Grown}
use Rattle.searching.specs.Witness.{Met, Shows}
use Rattle.searching.specs.Calculus.{Searched}
use Rattle.searching.specs.declared.node.Found.{Found}

-- nothing more is to be found: the list is too long, or a member was met and nothing is left that shows
pub data Done (found : Found) (left : ℕ) : Type 0 where
  too_many : LIST_WORDS < found.count → Done found left
  enough : found.count ≤ LIST_WORDS → left ≡ 0 → Met found.witness → Done found left

-- the answer says whether that is so; where it says no the list has room
pub record Finishes (found : Found) (left : ℕ) (answer : Bool) : Type 0 where
  pub done : answer ≡ true → Done found left
  pub room : answer ≡ false → found.count ≤ LIST_WORDS

-- the same with its pair lifted, while pairs are learnt
pub record HandedUp (K : ℕ → Type 0) (found : Found) (before after : List ℕ) (r : Found) : Type 0 where
  pub same_count : r.count ≡ found.count
  pub same_witness : r.witness ≡ found.witness
  pub lifted : Lifted K found.nogood before after r.nogood

-- what is said of a searched state, in the words of the calculus: what was met, of which the witness is one; what is remembered holds of every member;
-- and no member completes the pair
pub record SoughtOf (K : ℕ → Type 0) (shown : ℕ) (s : State) (whole : Bool) (memory : List ℕ) (r : Found) : Type 0 where
  pub met : List ℕ
  pub searched : Searched K shown s whole met
  pub shows : Shows met r.witness
  pub remembers : Remembers K memory
  pub nogood : Nogood K r.nogood

-- and that the cuts of what was met are in the list; all was searched unless that is too long
pub record Explored (K : ℕ → Type 0) (shown : ℕ) (s : State) (list : List ℕ) (count : ℕ) (after memory : List ℕ) (r : Found) : Type 0 where
  pub whole : Bool
  pub sought : SoughtOf K shown s whole memory r
  pub room : r.count ≤ LIST_WORDS → whole ≡ true
  pub gathered : Gathered (Grown list count (CutOf shown (λ M. Memᴰ M sought.met))) after r.count
