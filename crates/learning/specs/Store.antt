-- Inner: the store of learnt pairs, and what is promised of it: whoever avoided all its pairs, and the one that is learnt, avoids all of them after.
use Rattle.std.specs.Prelude.{◌≡◌, List, true, false, ℕ, ◌+◌, ◌*◌, ◌%◌, ◌≤◌, ◌<◌, min, ltb, length, get_or, set}
use Rattle.atoms.specs.Word.{AtMostOne, Apart, ◌∪◌, ◌∖◌}
use Rattle.states.specs.declared.state.State.{State}
use Rattle.learning.specs.Nogood.{Avoids}

-- how many pairs propagate, how many copies are kept beside them, and how many pairs there are
abbrev pub RING : ℕ
RING = 128

abbrev pub COPIES : ℕ
COPIES = 66

abbrev pub PAIRS : ℕ
PAIRS = RING + COPIES

-- where it stands in which place the ring is written next; where the trail starts, how many steps it has and how many words each; the word of unfounded
-- atoms behind it
abbrev pub PLACE : ℕ
PLACE = 2 * PAIRS

abbrev pub TRAIL : ℕ
TRAIL = PLACE + 1

abbrev pub STEPS : ℕ
STEPS = 66

abbrev pub STEP_WORDS : ℕ
STEP_WORDS = 3

abbrev pub UNFOUNDED : ℕ
UNFOUNDED = TRAIL + STEP_WORDS * STEPS

-- where the scores stand and how many words they have, and how many words the pairs and the advice behind them take
abbrev pub SCORES : ℕ
SCORES = UNFOUNDED + 1

abbrev pub SCORE_PLACES : ℕ
SCORE_PLACES = 16

abbrev pub MEMORY_WORDS : ℕ
MEMORY_WORDS = SCORES + SCORE_PLACES

-- pair i: two words
abbrev pub pair_at : List ℕ → ℕ → State
pair_at memory i = record { up = get_or memory (2 * i) 0; dropped = get_or memory (2 * i + 1) 0 }

-- N completes no pair of the store
pub record AvoidsAll (memory : List ℕ) (N : ℕ) : Type 0 where
  pub each : (i : ℕ) → i < PAIRS → Avoids (pair_at memory i) N

-- nothing is learnt yet: every N avoids all pairs
pub record Empty (memory : List ℕ) : Type 0 where
  pub long : length memory ≡ MEMORY_WORDS
  pub avoided : (N : ℕ) → AvoidsAll memory N

-- who has Q and avoided all pairs before avoids all after
pub record Keeps (Q : ℕ → Type 0) (before after : List ℕ) : Type 0 where
  pub same_length : length after ≡ length before
  pub keeps : (N : ℕ) → Q N → AvoidsAll before N → AvoidsAll after N

-- all pairs are as before
pub record SamePairs (before after : List ℕ) : Type 0 where
  pub same_length : length after ≡ length before
  pub same : (i : ℕ) → i < PAIRS → pair_at after i ≡ pair_at before i

-- pair i is n, and the others are as before
pub record PairWritten (i : ℕ) (n : State) (before after : List ℕ) : Type 0 where
  pub same_length : length after ≡ length before
  pub here : pair_at after i ≡ n
  pub others : (j : ℕ) → ¬ (j ≡ i) → pair_at after j ≡ pair_at before j

-- n is in the ring, and all that avoid it and the pairs before avoid what is there
pub record Learnt (n : State) (before after : List ℕ) : Type 0 where
  pub keeps : Keeps (Avoids n) before after
  pub place : ℕ
  pub in_ring : place < RING
  pub stored : pair_at after place ≡ n

-- ---- what is written, word for word

-- the store with n as pair i
abbrev pub with_pair : List ℕ → ℕ → State → List ℕ
with_pair memory i n = set (set memory (2 * i) n.up) (2 * i + 1) n.dropped

-- how many pairs of the ring were learnt: the word has the place that is written next, and once the ring is full the number stays above it
abbrev pub learnt_pairs : List ℕ → ℕ
learnt_pairs memory = min RING (get_or memory PLACE 0)

unfoldable pub next_place : ℕ → ℕ
next_place place = elim (ltb place RING) [ true ↦ place + 1 | false ↦ RING + place % RING + 1 ]

-- the store with n in the ring, in place of the oldest pair there
abbrev pub learnt_in : List ℕ → State → List ℕ
learnt_in memory n = with_pair (set memory PLACE (next_place (get_or memory PLACE 0))) (get_or memory PLACE 0 % RING) n

-- a copy of n is kept beside the trail, as far as there is room
pub record Copied (at : ℕ) (n : State) (before after : List ℕ) : Type 0 where
  pub room : at < COPIES → after ≡ with_pair before (RING + at) n
  pub full : COPIES ≤ at → after ≡ before

-- ---- which pair is news

-- the atoms of the pair that are missing in the state
abbrev pub missing : State → State → ℕ
missing n s = (n.up ∖ s.up) ∪ (n.dropped ∖ s.dropped)

-- the pair has something new to tell of the state: no more than one of its atoms is missing, and that one is undecided
pub record News (n s : State) : Type 0 where
  pub few : AtMostOne (missing n s)
  pub undecided : Apart (missing n s) (s.up ∪ s.dropped)

-- the first pair of those learnt, from this one on, that is news, or RING; nothing is where nothing completes the state
pub record NextNews (memory : List ℕ) (from : ℕ) (s : State) (r : ℕ) : Type 0 where
  pub news : r < RING → (r < learnt_pairs memory) × News (pair_at memory r) s
  pub passed : Apart s.up s.dropped → (i : ℕ) → from ≤ i → i < r → i < learnt_pairs memory → ¬ News (pair_at memory i) s
  pub stopped : ¬ Apart s.up s.dropped → r ≡ RING
