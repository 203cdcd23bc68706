-- Inner: the least numbers with a property, one after the other in lent words, and the tree over undecided atoms that meets them rising.
use Rattle.std.specs.Prelude.{◌≡◌, ◌⊎◌, Bool, ℕ, ◌^◌, ◌≤◌, ◌<◌, length, get_or, None, Option, Some}
use mathlib.Core.List.{List, [], Memᴰ}
use Rattle.atoms.specs.Word.{ATOMS, ◌∪◌, ◌∖◌}
use Rattle.states.specs.State.{Completes}
use Rattle.states.specs.Narrowing.{Narrows, branch_of}
use Rattle.states.specs.declared.state.State.{State}
use Rattle.propagating.specs.Desk.{Wired}
use Rattle.propagating.specs.declared.unit.Job.{Job}
use Rattle.finding.specs.Whole.{no_lists, hidden_of, Unpiloted, Standing}
use Rattle.finding.specs.Least.{Behind}
use Rattle.finding.specs.declared.gather.WalkNode.{WalkNode}

-- ---- words

-- M stands in one of the words from `count` to `r`
pub record StandsAmong (words : List ℕ) (count r M : ℕ) : Type 0 where
  pub place : ℕ
  pub from : count ≤ place
  pub to : place < r
  pub is : get_or words place 0 ≡ M

-- the words from `count` to `r` are the least with Q, rising: all of them, or as many as there is room for; the other words are as they were
pub record Added (Q : ℕ → Type 0) (before : List ℕ) (count : ℕ) (after : List ℕ) (r : ℕ) : Type 0 where
  pub long : length after ≡ length before
  pub more : count ≤ r
  pub room : r ≤ length before
  pub each : (i : ℕ) → count ≤ i → i < r → Q (get_or after i 0)
  pub rises : (i j : ℕ) → count ≤ i → i < j → j < r → get_or after i 0 < get_or after j 0
  pub all : (N : ℕ) → Q N → StandsAmong after count r N ⊎ ((r ≡ length before) × ((i : ℕ) → count ≤ i → i < r → get_or after i 0 < N))
  pub others : (i : ℕ) → (i < count) ⊎ (r ≤ i) → get_or after i 0 ≡ get_or before i 0

-- ---- what is sought

-- behind the place, and not among the words that are passed over
pub record Sought (from : Option ℕ) (passed : List ℕ) (M : ℕ) : Type 0 where
  pub behind : Behind from M
  pub new : ¬ Memᴰ M passed

-- an answer set that is sought, and fits the state
pub record Due (rules desk : List ℕ) (unit : Job) (facts : ℕ) (from : Option ℕ) (passed : List ℕ) (s : State) (M : ℕ) : Type 0 where
  pub fits : Unpiloted rules desk unit facts s M
  pub sought : Sought from passed M

-- it is this one, and sought
pub record OfferedNext (from : Option ℕ) (passed : List ℕ) (m M : ℕ) : Type 0 where
  pub is : M ≡ m
  pub sought : Sought from passed M

-- no completion of the state is behind the place
pub record AllPassed (s : State) (from : Option ℕ) : Type 0 where
  pub none : (M : ℕ) → M < 2 ^ ATOMS → Completes s M → ¬ Behind from M

-- ---- nodes

-- the state as it is without pilots: all of them are dropped
abbrev pub dark_of : State → ℕ → State
dark_of s X = record { up = s.up ∖ X; dropped = s.dropped ∪ X }

-- M completes the state without pilots, and it is an answer set that fits unless it is passed
pub record Likely (rules desk : List ℕ) (unit : Job) (facts : ℕ) (from : Option ℕ) (s : State) (M : ℕ) : Type 0 where
  pub word : M < 2 ^ ATOMS
  pub completes : Completes (dark_of s (hidden_of unit facts)) M
  pub fits : Behind from M → Unpiloted rules desk unit facts s M

-- such a position is known; or nothing is said
pub data Hinted (rules desk : List ℕ) (unit : Job) (facts : ℕ) (from : Option ℕ) (s : State) : Option ℕ → Type 0 where
  known : {M : ℕ} → Likely rules desk unit facts from s M → Hinted rules desk unit facts from s (Some M)
  unknown : Hinted rules desk unit facts from s None

-- such a position; or that no answer set that fits the state is behind the place
pub data Looked (rules desk : List ℕ) (unit : Job) (facts : ℕ) (from : Option ℕ) (s : State) : Option ℕ → Type 0 where
  seen : {M : ℕ} → Likely rules desk unit facts from s M → Looked rules desk unit facts from s (Some M)
  unseen : ((M : ℕ) → Unpiloted rules desk unit facts s M → ¬ Behind from M) → Looked rules desk unit facts from s None

-- m, if it completes the state
pub data KeptWitness (m : ℕ) (s : State) : Option ℕ → Type 0 where
  kept : m < 2 ^ ATOMS → Completes s m → KeptWitness m s (Some m)
  left : KeptWitness m s None

-- the place itself, if it completes the state
pub data PlaceIn (s : State) (from : Option ℕ) : Option ℕ → Type 0 where
  at_place : {p : ℕ} → p < 2 ^ ATOMS → from ≡ Some p → Completes s p → PlaceIn s from (Some p)
  elsewhere : PlaceIn s from None

-- a node: its state stands, and what is known of it is so
pub record Node (rules desk memory : List ℕ) (unit : Job) (facts : ℕ) (from : Option ℕ) (node : WalkNode) : Type 0 where
  pub stands : Standing rules desk memory unit facts node.front.state
  pub hinted : Hinted rules desk unit facts from node.front.state node.known

-- the node of an atom in a phase
pub record Descended (rules desk memory : List ℕ) (unit : Job) (facts : ℕ) (from : Option ℕ) (s : State) (k : ℕ) (phase : Bool) (node : WalkNode) : Type 0 where
  pub is_node : Node rules desk memory unit facts from node
  pub narrows : Narrows (Wired rules [] no_lists desk unit) (branch_of s k phase) node.front.state
