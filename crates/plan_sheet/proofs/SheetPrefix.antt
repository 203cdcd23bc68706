-- `settle` keeps the first 4,096 bytes of its input: the sheet of these is the sheet of all.
use Rattle.plan_sheet.proofs.Prelude.{◌≡◌, ap, List, ℕ, ◌≤◌, arith, take, answer, sheet_of}
use Rattle.reading.specs.Reading.{DECIDING_BYTES}
use Rattle.reading.proofs.Prefix.{reading_prefix}

-- the whole answer, table and all
pub answer_prefix : (n : ℕ) (bytes table : List ℕ) → DECIDING_BYTES ≤ n → answer (take n bytes) table ≡ answer bytes table
unfolding answer
answer_prefix n bytes table long = rw (reading_prefix n bytes long)

pub first_4096_decide : (bytes table : List ℕ) → sheet_of (answer (take 4096 bytes) table) ≡ sheet_of (answer bytes table)
first_4096_decide bytes table = ap sheet_of (answer_prefix 4096 bytes table (omega arith))
