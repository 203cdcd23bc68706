-- Inner: the calculus of the search, over any property K of positions: a relation with a case for each thing that a node may do. One theorem says that
-- what was met is all that shows of what is wanted (`proofs/Calculus.antt`); `explore` and `seek` go by these cases.
use Rattle.std.specs.Prelude.{◌≡◌, Bool, true, false, not, ℕ}
use mathlib.Core.List.{List, [], ◌∷◌, ◌++◌, Memᴰ}
use Rattle.atoms.specs.Word.{Apart, ◌∩◌}
use Rattle.states.specs.State.{undecided}
use Rattle.states.specs.Narrowing.{Narrows, Wanted, Within, branch_of}
use Rattle.states.specs.declared.state.State.{State}
use Rattle.learning.specs.Nogood.{Nogood}

-- the state was searched and these positions were met; `whole` says that no part was left out for want of room
pub data Searched (K : ℕ → Type 0) (shown : ℕ) : State → Bool → List ℕ → Type 0 where
  -- steps were taken first
  narrowed : {s t : State} {whole : Bool} {met : List ℕ} → Narrows K s t → Searched K shown t whole met → Searched K shown s whole met
  -- a stop: nothing is wanted
  stop : {s : State} → ((M : ℕ) → ¬ Wanted K s M) → Searched K shown s true []
  -- a leaf: the one position has K
  leaf : {s : State} → Apart s.up s.dropped × (undecided s.up s.dropped ≡ 0) → K s.up → Searched K shown s true (s.up ∷ [])
  -- the first branch is enough: a position was met, and no atom that shows is undecided
  done : {s : State} (i : ℕ) (phase : Bool) {whole : Bool} {met : List ℕ} {m : ℕ} → undecided s.up s.dropped ∩ shown ≡ 0 → Memᴰ m met
      → Searched K shown (branch_of s i phase) whole met → Searched K shown s true met
  -- there is no room for more than the first branch
  full : {s : State} (i : ℕ) (phase : Bool) {whole : Bool} {met : List ℕ} → Searched K shown (branch_of s i phase) whole met → Searched K shown s false met
  -- the second branch is skipped: a nogood lies within the state
  skip : {s n : State} (i : ℕ) (phase : Bool) {whole : Bool} {met : List ℕ} → Nogood K n → Within n s → Searched K shown (branch_of s i phase) whole met
      → Searched K shown s whole met
  -- both branches were searched
  both : {s : State} (i : ℕ) (phase : Bool) {whole : Bool} {one two : List ℕ} → Searched K shown (branch_of s i phase) true one
      → Searched K shown (branch_of s i (not phase)) whole two → Searched K shown s whole (one ++ two)
