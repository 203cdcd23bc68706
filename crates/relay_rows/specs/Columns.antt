-- Inner: what the loops promise: a column of bits as a word, words read and written that stand apart, and an area that is filled from its first word on.
use Rattle.std.specs.Prelude.{◌≡◌, Bool, List, ℕ, ◌+◌, ◌-◌, ◌*◌, ◌≤◌, ◌<◌, min, length, get_or}
use Rattle.atoms.specs.Word.{ATOMS, has, ◌∩◌}

-- the bit of the word number k of those that stand `stride` apart
unfoldable pub column : List ℕ → ℕ → ℕ → ℕ → ℕ → Bool
column area at stride bit k = has (get_or area (at + stride * k) 0) bit

-- n words that stand `stride` apart are there
pub record Readable (area : List ℕ) (at stride n : ℕ) : Type 0 where
  pub few : n ≤ ATOMS
  pub there : (k : ℕ) → k < n → at + stride * k < length area

-- these words, cut to the mask, and zeros behind
pub record BlockRead (area : List ℕ) (at stride mask n : ℕ) (block : List ℕ) : Type 0 where
  pub front : (k : ℕ) → k < n → get_or block k 0 ≡ get_or area (at + stride * k) 0 ∩ mask
  pub behind : (k : ℕ) → n ≤ k → get_or block k 0 ≡ 0

-- 64 words that stand `stride` apart are there
pub record Writable (area : List ℕ) (at stride : ℕ) : Type 0 where
  pub apart : 0 < stride
  pub there : (k : ℕ) → k < ATOMS → at + stride * k < length area

-- the first n of the words that stand `stride` apart are those of f, and the others are as before
pub record Scattered (f : ℕ → ℕ) (at stride : ℕ) (before after : List ℕ) (n : ℕ) : Type 0 where
  pub long : length after ≡ length before
  pub each : (k : ℕ) → k < n → get_or after (at + stride * k) 0 ≡ f k
  pub others : (w : ℕ) → ((k : ℕ) → k < n → ¬ (w ≡ at + stride * k)) → get_or after w 0 ≡ get_or before w 0

-- how many of the 64 positions from `from` on are below the count
abbrev pub kept_from : ℕ → ℕ → ℕ
kept_from count from = min (count - from) ATOMS

-- the first n words are those of f, and the others are as before
pub record FilledColumns (f : ℕ → ℕ) (before after : List ℕ) (n : ℕ) : Type 0 where
  pub long : length after ≡ length before
  pub filled : (w : ℕ) → w < n → get_or after w 0 ≡ f w
  pub untouched : (w : ℕ) → n ≤ w → get_or after w 0 ≡ get_or before w 0
