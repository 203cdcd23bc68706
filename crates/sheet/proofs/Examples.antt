-- The sheets that document 01 shows, computed from the definitions.
use Rattle.sheet.proofs.Prelude.{◌≡◌, refl, [], ◌∷◌, line_end, positions_word, refused_word, at_word, places_within, places, decimal, hexadecimal}
use Rattle.sheet.proofs.Prelude.{position_line, position_lines, positions_sheet, refusal_sheet}

-- 0 has one digit
pub decimal_of_0 : decimal 0 ≡ 48 ∷ []
unfolding places_within places decimal
decimal_of_0 = refl

-- plan P: `positions 2`, `0000000000000002`, `0000000000000005`
pub sheet_of-P :
    positions_sheet (2 ∷ 5 ∷ []) ≡
    112 ∷ 111 ∷ 115 ∷ 105 ∷ 116 ∷ 105 ∷ 111 ∷ 110 ∷ 115 ∷ 32 ∷ 50 ∷ 10 ∷
    48 ∷ 48 ∷ 48 ∷ 48 ∷ 48 ∷ 48 ∷ 48 ∷ 48 ∷ 48 ∷ 48 ∷ 48 ∷ 48 ∷ 48 ∷ 48 ∷ 48 ∷ 50 ∷ 10 ∷
    48 ∷ 48 ∷ 48 ∷ 48 ∷ 48 ∷ 48 ∷ 48 ∷ 48 ∷ 48 ∷ 48 ∷ 48 ∷ 48 ∷ 48 ∷ 48 ∷ 48 ∷ 53 ∷ 10 ∷ []
unfolding line_end positions_word places_within places decimal hexadecimal position_line position_lines positions_sheet
sheet_of-P = refl

-- P without its EDGE: `refused 14 at 1`
pub sheet_of-P-without_its_edge :
    refusal_sheet 14 1 ≡
    114 ∷ 101 ∷ 102 ∷ 117 ∷ 115 ∷ 101 ∷ 100 ∷ 32 ∷ 49 ∷ 52 ∷ 32 ∷ 97 ∷ 116 ∷ 32 ∷ 49 ∷ 10 ∷ []
unfolding line_end refused_word at_word places_within places decimal refusal_sheet
sheet_of-P-without_its_edge = refl
