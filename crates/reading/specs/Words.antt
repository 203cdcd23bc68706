-- The words of a plan.
use Rattle.std.specs.Prelude.{List, [], ◌∷◌, ℕ, ◌+◌, ◌*◌, ◌^◌, take, drop}

-- "Words are 64 bits": their bytes
abbrev pub WORD_BYTES : ℕ
WORD_BYTES = 8

-- how many values a byte has, and a word
abbrev pub BYTE_VALUES : ℕ
BYTE_VALUES = 0x100

abbrev pub WORD_VALUES : ℕ
WORD_VALUES = BYTE_VALUES ^ WORD_BYTES

-- "lowest byte first": the number that the bytes spell
unfoldable pub spelled : List ℕ → ℕ
spelled [] = 0
spelled (b ∷ bytes) = b + BYTE_VALUES * spelled bytes

-- the word that starts at byte `at`
unfoldable pub word_at : ℕ → List ℕ → ℕ
word_at at bytes = spelled (take WORD_BYTES (drop at bytes))
