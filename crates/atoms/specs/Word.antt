-- A word as a set of atoms. Document 01, Terms: "a set of atoms .., kept as a 64-bit word: atom i is bit i".
-- The set operations are shut: what is cited above is proofs/Sets.antt, never a bit operation.
use Rattle.std.specs.Prelude.{◌≡◌, Bool, ℕ, ◌-◌, ◌/◌, ◌%◌, ◌^◌, ◌≤◌, ◌<◌, eqb}
use Rattle.std.specs.Int.Bits.{bit_and, bit_or}

infixl 70 ◌∩◌
infixl 65 ◌∪◌ ◌∖◌
infix 50 ◌⊆◌ ◌⊂◌
-- how many atoms there are
abbrev pub ATOMS : ℕ
ATOMS = 64

-- the word of all atoms
abbrev pub EVERY_ATOM : ℕ
EVERY_ATOM = 2 ^ ATOMS - 1

-- "atom i is bit i": the binary digit of w at place i
abbrev pub digit : ℕ → ℕ → ℕ
digit w i = w / 2 ^ i % 2

-- atom i is in the set w
pub record Has (w i : ℕ) : Type 0 where
  pub bit : digit w i ≡ 1

-- the same, computed
unfoldable pub has : ℕ → ℕ → Bool
has w i = eqb (digit w i) 1

-- every atom of a is in b
pub record ◌⊆◌ (a b : ℕ) : Type 0 where
  pub each : (i : ℕ) → Has a i → Has b i

-- the same, computed
unfoldable pub subset : ℕ → ℕ → Bool
subset a b = eqb (bit_and a b) a

-- a proper subset
pub record ◌⊂◌ (a b : ℕ) : Type 0 where
  pub within : a ⊆ b
  pub short : ¬ (b ⊆ a)

-- no atom of a is in b
pub record Apart (a b : ℕ) : Type 0 where
  pub none : (i : ℕ) → Has a i → ¬ Has b i

-- the same, computed
unfoldable pub apart : ℕ → ℕ → Bool
apart a b = eqb (bit_and a b) 0

-- the atoms in both, in one or the other, in the first alone
unfoldable pub ◌∩◌ : ℕ → ℕ → ℕ
a ∩ b = bit_and a b

unfoldable pub ◌∪◌ : ℕ → ℕ → ℕ
a ∪ b = bit_or a b

unfoldable pub ◌∖◌ : ℕ → ℕ → ℕ
a ∖ b = a - bit_and a b

-- the set of the one atom i
unfoldable pub atom : ℕ → ℕ
atom i = 2 ^ i

-- the set of all atoms below n; `below ATOMS` is every atom there is
unfoldable pub below : ℕ → ℕ
below n = 2 ^ n - 1

-- the part of w from atom n on, as a number
unfoldable pub high : ℕ → ℕ → ℕ
high n w = w / 2 ^ n

-- all atoms but those of w
unfoldable pub outside : ℕ → ℕ
outside w = below ATOMS ∖ w

-- r is the lowest atom of w
pub record Lowest (w r : ℕ) : Type 0 where
  pub here : Has w r
  pub least : (i : ℕ) → i < r → ¬ Has w i

-- r is the highest atom of w
pub record Highest (w r : ℕ) : Type 0 where
  pub here : Has w r
  pub most : (i : ℕ) → Has w i → i ≤ r

-- w has no two atoms
pub record AtMostOne (w : ℕ) : Type 0 where
  pub same : (i j : ℕ) → Has w i → Has w j → i ≡ j

-- some of the word's atoms, at least one
pub record SomeOf (word w : ℕ) : Type 0 where
  pub within : w ⊆ word
  pub some : ¬ (w ≡ 0)
