-- The sheet of an answer (document 01, The sheet it prints).
use Rattle.std.specs.Prelude.{◌≡◌, ◌↔◌, ℕ, ◌+◌, ◌-◌, ◌*◌, ◌≤◌, length, take, drop, get_or, replicate, Result, Ok, Err}
use mathlib.Core.List.{List, Memᴰ}
use Rattle.plan.specs.Limits.{LIST_WORDS, LAST_LIST, LAST_COUNT, TABLE_WORDS}
use Rattle.plan.specs.Faults.{number, spot}
use Rattle.plan.specs.declared.record.Plan.{Plan}
use Rattle.plan.specs.Faults.{Outcome}
use Rattle.atoms.specs.Rising.{Rising}
use Rattle.atoms.specs.Cuts.{CutOf}
use Rattle.plan_meaning.specs.Settled.{Settles}
use Rattle.reading.specs.Layout.{Contents, record_of, IsByte, All}
use Rattle.sheet.specs.Sheet.{line_length, positions_sheet, refusal_sheet}
use Rattle.sheet.specs.LentSheet.{bytes_written as written, filled}
use Rattle.sheet.specs.declared.TooShort.{TooShort}
use Rattle.plan_sheet.specs.declared.Sheet.{Sheet}
use Rattle.demands.specs.Answer.{Answer, answer}
use Rattle.demands.specs.Demand1.{Listable, FirstFault}
use Rattle.demands.specs.UnitsMean.{ListsMean}

-- by outcome: the last list's positions, or the refusal
unfoldable pub sheet_for : Outcome → List ℕ → List ℕ → List ℕ
sheet_for (Err f) counts table = refusal_sheet (number f) (spot f)
sheet_for (Ok u) counts table = positions_sheet (take (get_or counts LAST_COUNT 0) (drop LAST_LIST table))

unfoldable pub sheet_of : Answer → List ℕ
sheet_of a = sheet_for a.outcome a.counts a.table

-- the length of the longest sheet: 14 bytes of its first line, and a line for each member of a full list
abbrev pub SHEET_BYTES : ℕ
SHEET_BYTES = 14 + line_length * LIST_WORDS

-- the positions of a plan's sheet: what shows of the answer sets of all its rules as one set, with its given atoms as facts, each once, rising
pub record Positions (p : Plan) (ws : List ℕ) : Type 0 where
  pub rising : Rising ws
  pub members : (X : ℕ) → Memᴰ X ws ↔ CutOf p.once.shown.word (Settles p) X

-- what a sheet says: of a plan that is listed its positions, one line each, and of any other its first fault; and what the plan's lists mean
pub record SheetSays (bytes table sheet : List ℕ) : Type 0 where
  pub positions : (c : Contents) → Listable bytes c → TABLE_WORDS ≤ length table
      → (ws : List ℕ) × (sheet ≡ positions_sheet ws) × Positions (record_of c) ws
  pub refusal : (n s : ℕ) → FirstFault bytes table n s → sheet ≡ refusal_sheet n s
  pub meaning : ListsMean bytes

-- the table is the answer's, and the sheet its sheet, where the buffer has room for it; SHEET_BYTES are always enough
pub record Printed (bytes table table' sheet sheet' : List ℕ) (r : Result ℕ TooShort) : Type 0 where
  pub table_is : table' ≡ (answer bytes table).table
  pub written_is : r ≡ written (sheet_of (answer bytes table)) sheet
  pub sheet_is : sheet' ≡ filled (sheet_of (answer bytes table)) sheet
  pub at_most : length (sheet_of (answer bytes table)) ≤ SHEET_BYTES
  pub says : SheetSays bytes table (sheet_of (answer bytes table))

-- how many bytes were written, none where the buffer is too short
abbrev pub written_bytes : Result ℕ TooShort → ℕ
written_bytes (Ok n) = n
written_bytes (Err short) = 0

-- the sheet of a plan; the table is the function's own
unfoldable pub plan_sheet : List ℕ → List ℕ
plan_sheet bytes = sheet_of (answer bytes (replicate {A = ℕ} TABLE_WORDS 0))

-- "It keeps the first 4,096 bytes"
abbrev pub KEPT_BYTES : ℕ
KEPT_BYTES = 4096

-- the sheet of what was read into the area, and of every input that begins with it: one of at most KEPT_BYTES bytes that was read whole, or
-- a longer one that was read up to there; zeros behind it
pub record SheetKept (area : List ℕ) (read : ℕ) (r : Sheet) : Type 0 where
  pub fits : r.length ≤ length r.bytes
  pub is : take r.length r.bytes ≡ plan_sheet (take read area)
  pub of_all : (bytes : List ℕ) → take KEPT_BYTES bytes ≡ take read area → take r.length r.bytes ≡ plan_sheet bytes
  pub says : (bytes : List ℕ) → All IsByte bytes → take KEPT_BYTES bytes ≡ take read area
      → SheetSays bytes (replicate {A = ℕ} TABLE_WORDS 0) (take r.length r.bytes)
  pub behind : drop r.length r.bytes ≡ replicate {A = ℕ} (SHEET_BYTES - r.length) 0
