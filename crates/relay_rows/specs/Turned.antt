-- Rows for columns, over any number of rows and columns, in areas whose rows have any number of words. Document 02, S-9.
use Rattle.std.specs.Prelude.{Bool, ◌&&◌, ◌↔◌, List, ℕ, ◌+◌, ◌*◌, ◌/◌, ◌%◌, ◌<◌, get_or}
use Rattle.atoms.specs.Word.{Has, has}
use Rattle.atoms.specs.Bounded.{word_below}
use Rattle.atoms.specs.Lists.{tabulate}

-- how an area is cut: so many rows, of so many words, of so many bits
pub record Shape : Type 0 where
  pub rows : ℕ
  pub words : ℕ
  pub bits : ℕ

-- how many bits a row has
abbrev pub columns : Shape → ℕ
columns s = s.words * s.bits

-- bit j of row i: "row i from word 4·i on, bit j being bit j mod 64 of the row's word j div 64"
abbrev pub Bit : Shape → List ℕ → ℕ → ℕ → Type 0
Bit s area i j = Has (get_or area (s.words * i + j / s.bits) 0) (j % s.bits)

-- the same, computed
unfoldable pub bit : Shape → List ℕ → ℕ → ℕ → Bool
bit s area i j = has (get_or area (s.words * i + j / s.bits) 0) (j % s.bits)

-- bit j of row i is bit i of row j of the other area where it is kept, and 0 where it is not
pub record Turned (from to : Shape) (Kept : ℕ → ℕ → Type 0) (area turned : List ℕ) : Type 0 where
  pub bits_are : (i j : ℕ) → i < to.rows → j < columns to → Bit to turned i j ↔ (Kept i j × Bit from area j i)

-- the same, computed: word w stands in row w / words, and its bit k is the row's bit w % words * bits + k
unfoldable pub turned_word : Shape → Shape → (ℕ → ℕ → Bool) → List ℕ → ℕ → ℕ
turned_word from to kept area w =
    word_below to.bits
    (λ k. kept (w / to.words) (w % to.words * to.bits + k) && bit from area (w % to.words * to.bits + k) (w / to.words))

unfoldable pub turned_area : Shape → Shape → (ℕ → ℕ → Bool) → List ℕ → List ℕ
turned_area from to kept area = tabulate (to.rows * to.words) (turned_word from to kept area)
