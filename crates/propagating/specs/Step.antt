-- Inner: the steps by number.
use Rattle.std.specs.Prelude.{◌≡◌, ℕ, ◌+◌, ◌≤◌, ◌<◌}
use Rattle.atoms.specs.Word.{ATOMS}
use Rattle.plan.specs.Limits.{MAX_RULES, MAX_TABLES, MAX_UNITS}
use Rattle.learning.specs.Store.{PAIRS}
use Rattle.propagating.specs.declared.step.Step.{Step}
use Rattle.propagating.specs.declared.step.Step.TheVariants.{Rule, Support, List, Founded, Table, Sums, Pair, Unfounded}

-- the first number of each kind: of rules it is 0
abbrev pub SUPPORTS : ℕ
SUPPORTS = MAX_RULES

abbrev pub LISTS : ℕ
LISTS = SUPPORTS + ATOMS

abbrev pub FOUNDED_STEP : ℕ
FOUNDED_STEP = LISTS + MAX_UNITS

abbrev pub TABLE_STEPS : ℕ
TABLE_STEPS = FOUNDED_STEP + 1

abbrev pub SUM_STEP : ℕ
SUM_STEP = TABLE_STEPS + MAX_TABLES

abbrev pub PAIR_STEPS : ℕ
PAIR_STEPS = SUM_STEP + 1

abbrev pub UNFOUNDED_STEP : ℕ
UNFOUNDED_STEP = PAIR_STEPS + PAIRS

-- the step has the number, and is one that there is
abbrev pub Decoded : ℕ → Step → Type 0
Decoded n (Rule r) = (r < MAX_RULES) × (n ≡ r)
Decoded n (Support a) = (a < ATOMS) × (n ≡ SUPPORTS + a)
Decoded n (List v) = (v < MAX_UNITS) × (n ≡ LISTS + v)
Decoded n Founded = n ≡ FOUNDED_STEP
Decoded n (Table t) = (t < MAX_TABLES) × (n ≡ TABLE_STEPS + t)
Decoded n Sums = n ≡ SUM_STEP
Decoded n (Pair i) = (i < PAIRS) × (n ≡ PAIR_STEPS + i)
Decoded n Unfounded = UNFOUNDED_STEP ≤ n

-- the step is one that there is: its rule, atom, list, table or pair
pub record IsStep (s : Step) : Type 0 where
  pub rule : (r : ℕ) → s ≡ Rule r → r < MAX_RULES
  pub atom : (a : ℕ) → s ≡ Support a → a < ATOMS
  pub list : (v : ℕ) → s ≡ List v → v < MAX_UNITS
  pub table : (t : ℕ) → s ≡ Table t → t < MAX_TABLES
  pub pair : (i : ℕ) → s ≡ Pair i → i < PAIRS
