-- The bytes of a sheet. Document 01, "The sheet it prints".
use Rattle.std.specs.Prelude.{ℕ, zero, suc, ◌+◌, ◌/◌, true, false, List, [], ◌∷◌, ◌++◌, ltb, length}
use Rattle.io.specs.Digits.{last_digits}

-- "Lines end in byte 0x0a"
unfoldable pub line_end : List ℕ
line_end = 0x0a ∷ []

-- "the word `positions`, a space"
unfoldable pub positions_word : List ℕ
positions_word = 112 ∷ 111 ∷ 115 ∷ 105 ∷ 116 ∷ 105 ∷ 111 ∷ 110 ∷ 115 ∷ 32 ∷ []

-- "`refused R at S`": what stands before R
unfoldable pub refused_word : List ℕ
refused_word = 114 ∷ 101 ∷ 102 ∷ 117 ∷ 115 ∷ 101 ∷ 100 ∷ 32 ∷ []

-- "`refused R at S`": what stands between R and S
unfoldable pub at_word : List ℕ
at_word = 32 ∷ 97 ∷ 116 ∷ 32 ∷ []

-- how many digits n has "in decimal", found in at most so many turns
unfoldable pub places_within : ℕ → ℕ → ℕ
places_within zero n = zero
places_within (suc turns) n = elim (ltb n 10) [ true ↦ 1 | false ↦ suc (places_within turns (n / 10)) ]

-- the same; n + 1 turns are never too few
unfoldable pub places : ℕ → ℕ
places n = places_within (suc n) n

-- "in decimal": no zero in front, and `0` for 0
unfoldable pub decimal : ℕ → List ℕ
decimal n = last_digits 10 (places n) n

-- "sixteen .. hexadecimal digits": of a word of 64 bits, four bits each
abbrev pub HEX_DIGITS : ℕ
HEX_DIGITS = 64 / 4

-- "sixteen lower-case hexadecimal digits", the highest first
unfoldable pub hexadecimal : ℕ → List ℕ
hexadecimal w = last_digits 16 HEX_DIGITS w

-- a position's line: "sixteen lower-case hexadecimal digits", and the line's end
unfoldable pub position_line : ℕ → List ℕ
position_line w = hexadecimal w ++ line_end

-- its length
abbrev pub line_length : ℕ
line_length = HEX_DIGITS + 1

-- "one line per position"
unfoldable pub position_lines : List ℕ → List ℕ
position_lines [] = []
position_lines (w ∷ ws) = position_line w ++ position_lines ws

-- "It writes the word `positions`, a space and the last count in decimal, then one line per position"
unfoldable pub positions_sheet : List ℕ → List ℕ
positions_sheet ws = positions_word ++ decimal (length ws) ++ line_end ++ position_lines ws

-- "A refusal is one line, `refused R at S`, both decimal"
unfoldable pub refusal_sheet : ℕ → ℕ → List ℕ
refusal_sheet number spot = refused_word ++ decimal number ++ at_word ++ decimal spot ++ line_end
