-- Inner: 64 by 64 bits, turned by exchanging half blocks, the largest first.
use Rattle.std.specs.Prelude.{List, ◌↔◌, ℕ, ◌^◌, ◌≤◌, ◌<◌, length, get_or}
use Rattle.atoms.specs.Word.{ATOMS, Has, has, ◌∩◌, ◌∪◌, ◌∖◌, atom, below}
use Rattle.atoms.specs.Bounded.{word_below}

-- k with its bit e from c
unfoldable pub swapped : ℕ → ℕ → ℕ → ℕ
swapped e k c = (k ∖ atom e) ∪ (c ∩ atom e)

-- the bits of c from e on, and those of k below
unfoldable pub mixed : ℕ → ℕ → ℕ → ℕ
mixed e k c = (c ∖ below e) ∪ (k ∩ below e)

-- word k of a block in which the half blocks of 2^e words and bits that stand across are exchanged
unfoldable pub exchanged_word : ℕ → List ℕ → ℕ → ℕ
exchanged_word e block k = word_below ATOMS (λ c. has (get_or block (swapped e k c) 0) (swapped e c k))

-- half blocks of 2^e and all larger ones were exchanged
pub record Halved (e : ℕ) (block after : List ℕ) : Type 0 where
  pub bits : (k c : ℕ) → k < ATOMS → c < ATOMS → Has (get_or after k 0) c ↔ Has (get_or block (mixed e k c) 0) (mixed e c k)

-- the mask has the places whose own bit e is 0
pub record Alternates (e mask : ℕ) : Type 0 where
  pub small : e < 6
  pub places : (c : ℕ) → Has mask c ↔ ((c < ATOMS) × ¬ Has c e)

-- a block of 64 words, a round and a row of it
pub record Exchangeable (block : List ℕ) (k e mask : ℕ) : Type 0 where
  pub whole : ATOMS ≤ length block
  pub row : k < ATOMS
  pub alternates : Alternates e mask

-- a round from one block into another
pub record RoundTakes (block exchanged : List ℕ) (e mask : ℕ) : Type 0 where
  pub from_whole : ATOMS ≤ length block
  pub to_whole : ATOMS ≤ length exchanged
  pub alternates : Alternates e mask

-- rows for columns in one block
pub record Crossed (block turned : List ℕ) : Type 0 where
  pub bits : (k c : ℕ) → k < ATOMS → c < ATOMS → Has (get_or turned k 0) c ↔ Has (get_or block c 0) k
  pub fits : (k : ℕ) → k < ATOMS → get_or turned k 0 < 2 ^ ATOMS
