-- Inner: the trail of steps that changed the state, and the scores of atoms, as the words behind the pairs have them.
use Rattle.std.specs.Prelude.{◌≡◌, List, ◌⊎◌, ℕ, ◌+◌, ◌*◌, ◌≤◌, ◌<◌, get_or, set, take, drop}
use Rattle.atoms.specs.Tally.{Tallied, MostCounted}
use Rattle.states.specs.declared.state.State.{State}
use Rattle.learning.specs.Store.{TRAIL, STEPS, STEP_WORDS, SCORES, SCORE_PLACES, MEMORY_WORDS, learnt_pairs}
use Rattle.learning.specs.declared.trail.Recorded.{Recorded}

-- where step `at` stands
abbrev pub step_place : ℕ → ℕ
step_place at = TRAIL + STEP_WORDS * at

abbrev pub step_at : List ℕ → ℕ → Recorded
step_at memory at = record {
  before = record { up = get_or memory (step_place at) 0; dropped = get_or memory (step_place at + 1) 0 };
  step = get_or memory (step_place at + 2) 0;
}

-- the memory with this step as step `at`
abbrev pub with_step : List ℕ → ℕ → ℕ → State → List ℕ
with_step memory at step s = set (set (set memory (step_place at) s.up) (step_place at + 1) s.dropped) (step_place at + 2) step

-- a step is noted if it changed the state and there is room, and else nothing is; r is where the next one is noted
pub record StepNoted (at step : ℕ) (s t : State) (before after : List ℕ) (r : ℕ) : Type 0 where
  pub noted : ¬ (s ≡ t) → at < STEPS → (after ≡ with_step before at step s) × (r ≡ at + 1)
  pub unchanged : (s ≡ t) ⊎ (STEPS ≤ at) → (after ≡ before) × (r ≡ at)

-- the scores of all atoms
abbrev pub scores_of : List ℕ → List ℕ
scores_of memory = take SCORE_PLACES (drop SCORES memory)

-- each of these atoms scores once more, and no other word is written
pub record Scored (which : ℕ) (before after : List ℕ) : Type 0 where
  pub scores : Tallied which (scores_of before) (scores_of after)
  pub others : (i : ℕ) → i < SCORES ⊎ (MEMORY_WORDS ≤ i) → get_or after i 0 ≡ get_or before i 0

-- those of the atoms with the highest score, and all while nothing is learnt
pub record Leading (memory : List ℕ) (which r : ℕ) : Type 0 where
  pub at_first : learnt_pairs memory ≡ 0 → r ≡ which
  pub highest : ¬ (learnt_pairs memory ≡ 0) → MostCounted (scores_of memory) which r
