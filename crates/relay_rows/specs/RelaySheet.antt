-- The list and the rows of document 02, S-9: 256 positions of 64 atoms.
use Rattle.std.specs.Prelude.{List, ℕ, ltb}
use Rattle.atoms.specs.Word.{ATOMS}
use Rattle.relay_rows.specs.Turned.{Shape, turned_word, turned_area}

-- "a list of 256 words", and as many words in "64 rows of 256 bits"
abbrev pub AREA_WORDS : ℕ
AREA_WORDS = 256

-- "A row is four words"
abbrev pub ROW_WORDS : ℕ
ROW_WORDS = 4

-- a list: a row of one word for each position
abbrev pub position_shape : Shape
position_shape = record { rows = AREA_WORDS; words = 1; bits = ATOMS }

-- the sheet by relay: a row of four words for each atom
abbrev pub row_shape : Shape
row_shape = record { rows = ATOMS; words = ROW_WORDS; bits = ATOMS }

-- "bits from the count on are 0": a word of the rows, and all of them
abbrev pub row_word : ℕ → List ℕ → ℕ → ℕ
row_word count = turned_word position_shape row_shape (λ i j. ltb j count)

abbrev pub rows_of : ℕ → List ℕ → List ℕ
rows_of count = turned_area position_shape row_shape (λ i j. ltb j count)

-- "restores every word of the list below the count, and writes 0 in the rest": a word of the list, and all of them
abbrev pub position_word : ℕ → List ℕ → ℕ → ℕ
position_word count = turned_word row_shape position_shape (λ j i. ltb j count)

abbrev pub positions_of : ℕ → List ℕ → List ℕ
positions_of count = turned_area row_shape position_shape (λ j i. ltb j count)
