-- Inner: reasons. What a step tells from a part of a state may stand in a nogood as that part.
use Rattle.std.specs.Prelude.{◌≡◌, Bool, true, false, ◌⊎◌, List, ℕ, ◌≤◌, ◌<◌, length}
use Rattle.atoms.specs.Word.{AtMostOne, Apart, ◌∩◌, ◌∪◌, ◌∖◌}
use Rattle.atoms.specs.Bounded.{Decides}
use Rattle.states.specs.State.{Completes}
use Rattle.states.specs.declared.state.State.{State}
use Rattle.learning.specs.Nogood.{Avoids}
use Rattle.states.specs.Narrowing.{Within, Overlaps}
use Rattle.learning.specs.Store.{RING, MEMORY_WORDS, pair_at, AvoidsAll, Keeps, SamePairs}

-- N has K and completes no pair that was learnt
pub record Heeds (K : ℕ → Type 0) (memory : List ℕ) (N : ℕ) : Type 0 where
  pub has : K N
  pub avoids : AvoidsAll memory N

-- the memory is there, and no N with K completes a pair of it
pub record Remembers (K : ℕ → Type 0) (memory : List ℕ) : Type 0 where
  pub long : MEMORY_WORDS ≤ length memory
  pub avoids : (N : ℕ) → K N → AvoidsAll memory N

-- the part is a reason of the goal: each N with K that completes the part completes the goal
pub record Explains (K : ℕ → Type 0) (part goal : State) : Type 0 where
  pub completes : (N : ℕ) → K N → Completes part N → Completes goal N

-- a state tells a goal: it has all of it, or nothing completes it
pub record Tells (t goal : State) : Type 0 where
  pub told : Within goal t ⊎ Overlaps t

-- what the pair names beyond the state, and the pair with a part in place of that
abbrev pub beyond_of : State → State → State
beyond_of n s = record { up = n.up ∖ s.up; dropped = n.dropped ∖ s.dropped }

abbrev pub replaced : State → State → State → State
replaced n s part = record { up = n.up ∩ s.up ∪ part.up; dropped = n.dropped ∩ s.dropped ∪ part.dropped }

-- a nogood leads to a nogood: who has K and avoids the first avoids the second
pub record Leads (K : ℕ → Type 0) (n r : State) : Type 0 where
  pub avoided : (N : ℕ) → K N → Avoids n N → Avoids r N

-- so over all steps of a trail, while pairs are learnt
pub record Lifted (K : ℕ → Type 0) (n : State) (before after : List ℕ) (r : State) : Type 0 where
  pub keeps : Keeps (λ N. K N × Avoids n N) before after
  pub leads : Leads (Heeds K before) n r

-- something may complete the pair, and it names at most one atom beyond the base
pub record WorthLearning (base n : State) : Type 0 where
  pub completed : Apart n.up n.dropped
  pub few : AtMostOne ((beyond_of n base).up ∪ (beyond_of n base).dropped)

-- the pair is learnt if none was learnt before and it is worth it, and else no pair is written; r says whether one is learnt now
pub record LearntOnce (base n : State) (learnt : Bool) (before after : List ℕ) (r : Bool) : Type 0 where
  pub told : Decides ((learnt ≡ true) ⊎ WorthLearning base n) r
  pub stored : learnt ≡ false → r ≡ true → (place : ℕ) × (place < RING) × (pair_at after place ≡ n)
  pub same : (learnt ≡ true) ⊎ (r ≡ false) → SamePairs before after
