-- A sheet is put together from its pieces, one behind the other, and its length is theirs.
use Rattle.sheet.proofs.Prelude.{ℕ, ◌+◌, ◌*◌, ◌^◌, ◌≤◌, ◌<◌, ◌≡◌, refl, ◌∙◌, List, [], ◌∷◌, ◌++◌, append_assoc, append-nil, lt_trans, lt_of_le_of_lt}
use Rattle.sheet.proofs.Prelude.{add-one, arith, lit<, length, take, get_or, length-append, take-suc, line_end, positions_word, refused_word, at_word}
use Rattle.sheet.proofs.Prelude.{decimal, hexadecimal, line_length, position_line, position_lines, positions_sheet, refusal_sheet, Put}
use Rattle.sheet.proofs.DecimalDigits.{decimal_at_most, length_hexadecimal}
use Rattle.sheet.proofs.WrittenBytes.{put_append, put_nothing}

pub length_position_line : (w : ℕ) → length (position_line w) ≡ line_length
unfolding position_line line_end
length_position_line w = length-append (hexadecimal w) _ ∙ rw length_hexadecimal

pub length_position_lines : (ws : List ℕ) → length (position_lines ws) ≡ line_length * length ws
unfolding position_lines
length_position_lines [] = refl
length_position_lines (w ∷ ws) =
    let rest = length_position_lines ws in
    let line = length_position_line w in
    length-append (position_line w) (position_lines ws) ∙ omega arith

position_lines_append : (a b : List ℕ) → position_lines (a ++ b) ≡ position_lines a ++ position_lines b
unfolding position_lines
position_lines_append [] b = refl
position_lines_append (w ∷ a) b = rw (position_lines_append a b, append_assoc)

position_lines_next : (ws : List ℕ) (i : ℕ) → i < length ws → position_lines (take (i + 1) ws) ≡ position_lines (take i ws) ++ position_line (get_or ws i 0)
unfolding position_lines
position_lines_next ws i h =
    rw (add-one i, take-suc ws i 0 h, position_lines_append (take i ws) (get_or ws i 0 ∷ []), append-nil (position_line (get_or ws i 0)))

pub length_positions_sheet : (ws : List ℕ) → length (positions_sheet ws) ≡ length (decimal (length ws)) + 11 + line_length * length ws
unfolding positions_sheet positions_word line_end
length_positions_sheet ws =
    let lines = length_position_lines ws in
    simp length-append (omega arith)

pub length_refusal_sheet : (number spot : ℕ) → length (refusal_sheet number spot) ≡ length (decimal number) + length (decimal spot) + 13
unfolding refusal_sheet refused_word at_word line_end
length_refusal_sheet number spot = simp length-append (omega arith)

-- 256 positions make a first line of 14 bytes, three of them the count's, and 256 lines
pub positions_at_most : (ws : List ℕ) → length ws ≤ 256 → length (positions_sheet ws) ≤ 14 + line_length * 256
positions_at_most ws h =
    let few : length (decimal (length ws)) ≤ 3 = decimal_at_most (length ws) 3 (lit< tt) (lt_of_le_of_lt h (lit< tt)) in
    omega (arith, length_positions_sheet ws)

-- a refusal's number and spot have at most twenty digits each, as every word
pub refusal_at_most : (number spot : ℕ) → number < 2 ^ 64 → spot < 2 ^ 64 → length (refusal_sheet number spot) ≤ 53
refusal_at_most number spot h l =
    let few : length (decimal number) ≤ 20 = decimal_at_most number 20 (lit< tt) (lt_trans h (lit< tt)) in
    let few-more : length (decimal spot) ≤ 20 = decimal_at_most spot 20 (lit< tt) (lt_trans l (lit< tt)) in
    omega (arith, length_refusal_sheet number spot)

pub put_position_line : (w : ℕ) {at mid next : ℕ} {s t u : List ℕ} → Put (hexadecimal w) at s t mid → Put line_end mid t u next
    → Put (position_line w) at s u next
unfolding position_line
put_position_line w p q = put_append p q

pub put_no_line : (at : ℕ) (s : List ℕ) → Put (position_lines []) at s s at
unfolding position_lines
put_no_line at s = put_nothing at s

-- one more of the lines
pub put_next_line : (ws : List ℕ) (i : ℕ) {at mid next : ℕ} {s t u : List ℕ} → i < length ws → Put (position_lines (take i ws)) at s t mid →
    Put (position_line (get_or ws i 0)) mid t u next → Put (position_lines (take (i + 1) ws)) at s u next
put_next_line ws i h p q = rw (position_lines_next ws i h) (put_append p q)

pub put_positions_sheet : (ws : List ℕ) {a b c d : ℕ} {s₀ s₁ s₂ s₃ s₄ : List ℕ} → Put positions_word 0 s₀ s₁ a →
    Put (decimal (length ws)) a s₁ s₂ b → Put line_end b s₂ s₃ c → Put (position_lines ws) c s₃ s₄ d → Put (positions_sheet ws) 0 s₀ s₄ d
unfolding positions_sheet
put_positions_sheet ws p q r l = put_append (put_append (put_append p q) r) l

pub put_refusal_sheet : (number spot : ℕ) {a b c d e : ℕ} {s₀ s₁ s₂ s₃ s₄ s₅ : List ℕ} → Put refused_word 0 s₀ s₁ a →
    Put (decimal number) a s₁ s₂ b → Put at_word b s₂ s₃ c → Put (decimal spot) c s₃ s₄ d → Put line_end d s₄ s₅ e →
    Put (refusal_sheet number spot) 0 s₀ s₅ e
unfolding refusal_sheet
put_refusal_sheet number spot p q r l m = put_append (put_append (put_append (put_append p q) r) l) m
