-- Inner: parities. A table whose truth word has the rows with an odd number of bits says whether an odd number of its inputs is up.
use Rattle.std.specs.Prelude.{◌≡◌, List, ◌⊎◌, ℕ, ◌%◌, ◌^◌, ◌≤◌, ◌<◌, length, get_or}
use Rattle.std.specs.Int.Count.{ones}
use Rattle.atoms.specs.Word.{Has, ◌∩◌, ◌∪◌, ◌∖◌, below}
use Rattle.plan.specs.Limits.{MAX_TABLES, MAX_INPUTS, FIRST_RULE}
use Rattle.answer_sets.specs.Lent.{inputs, truth}

infixl 65 ◌△◌
-- 1 where the word has an odd number of atoms, else 0
unfoldable pub odd : ℕ → ℕ
odd w = ones w % 2

-- the atoms that are in one of two words and not in both
unfoldable pub ◌△◌ : ℕ → ℕ → ℕ
a △ b = (a ∖ b) ∪ (b ∖ a)

-- the rows of six inputs with an odd number of bits
abbrev pub ODD_ROWS : ℕ
ODD_ROWS = 7608434000728254870

-- the truth word of so many inputs that says whether an odd number of them is up
abbrev pub odd_truth : ℕ → ℕ
odd_truth n = ODD_ROWS ∩ below (2 ^ n)

-- and the one that says whether an even number is
abbrev pub even_truth : ℕ → ℕ
even_truth n = below (2 ^ n) ∖ ODD_ROWS

-- a table with these words is one of the two
pub record Parity (inputs truth : ℕ) : Type 0 where
  pub few : ones inputs ≤ MAX_INPUTS
  pub word : (truth ≡ odd_truth (ones inputs)) ⊎ (truth ≡ even_truth (ones inputs))

-- the tables are lent, and table t is a parity with one pilot
pub record ParityTable (rules pilots : List ℕ) (t : ℕ) : Type 0 where
  pub number : t < MAX_TABLES
  pub there : FIRST_RULE ≤ length rules
  pub parity : Parity (inputs rules t) (truth rules t)
  pub piloted : ones (get_or pilots t 0) ≡ 1

-- the atom is an input or the pilot of such a table
pub record ParityAtom (rules pilots : List ℕ) (a : ℕ) : Type 0 where
  pub table : ℕ
  pub of : ParityTable rules pilots table
  pub within : Has (inputs rules table ∪ get_or pilots table 0) a
