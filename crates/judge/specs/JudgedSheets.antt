-- A whole sheet judged. Document 02, S-12: "It passes a plan and up to 256 positions, any order".
use Rattle.std.specs.Prelude.{◌≡◌, Bool, true, false, not, ◌⊎◌, ℕ, ◌*◌, ◌/◌, ◌%◌, ◌≤◌, ◌<◌, ltb, eqb, length, get_or}
use Rattle.std.specs.Prelude.{Option, Some, None, Result, Ok, Err}
use mathlib.Core.List.{List, flat_map}
use Rattle.atoms.specs.Collected.{lowest}
use Rattle.plan.specs.Faults.{code_of, refusal_code}
use Rattle.plan.specs.declared.fault.Fault.{Fault}
use Rattle.plan.specs.declared.record.Plan.{Plan}
use Rattle.reading.specs.Words.{WORD_BYTES, WORD_VALUES, word_at}
use Rattle.reading.specs.Layout.{All, word_bytes}
use Rattle.plan_meaning.specs.Settled.{Settles, settled}
use Rattle.plan_meaning.specs.Asked.{asked, Answered}
use Rattle.judge.specs.declared.sheet.SheetFault.{SheetFault}
use Rattle.judge.specs.declared.sheet.SheetFault.TheVariants.{Refused, BadSheet}

-- "up to 256 positions"
abbrev pub MAX_POSITIONS : ℕ
MAX_POSITIONS = 256

-- the place of the first position that is not settled, or none where all are; or why the question is refused
abbrev pub SheetAnswer : Type 0
SheetAnswer = Result (Option ℕ) SheetFault

-- ---- the answer, computed

-- "24, over 256 positions or a byte count not divisible by 8", by the count of bytes
unfoldable pub bad_bytes : ℕ → Bool
bad_bytes bytes = elim (ltb MAX_POSITIONS (bytes / WORD_BYTES)) [ true ↦ true | false ↦ not (eqb (bytes % WORD_BYTES) 0) ]

-- how many positions stand in the bytes of a sheet
abbrev pub positions_in : List ℕ → ℕ
positions_in sheet = length sheet / WORD_BYTES

-- "Each position is a word as in the plan, lowest byte first": the one at a place from 0
abbrev pub position_at : List ℕ → ℕ → ℕ
position_at sheet place = word_at (WORD_BYTES * place) sheet

-- the position at the place is no answer set of the whole program
abbrev pub unsettled_at : Plan → List ℕ → ℕ → Bool
unsettled_at p sheet place = not (settled p (position_at sheet place))

-- "all are answer sets, or the place from 0 of the first that isn't"
unfoldable pub places_judged : Plan → List ℕ → Option ℕ
places_judged p sheet =
    let place = lowest (positions_in sheet) (unsettled_at p sheet) in
    elim (ltb place (positions_in sheet)) [ true ↦ Some place | false ↦ None ]

-- a question about the positions of a sheet: 24 for what is none
unfoldable pub sheet_in : {A : Type 0} → A → (Plan → List ℕ → A) → List ℕ → Plan → A
sheet_in bad answer sheet p = elim (bad_bytes (length sheet)) [ true ↦ bad | false ↦ answer p sheet ]

-- the same as an answer
abbrev pub places_in : Plan → List ℕ → SheetAnswer
places_in p sheet = Ok (places_judged p sheet)

-- the refusal of a plan as an answer
abbrev pub unread : Fault → SheetAnswer
unread f = Err (Refused f)

-- 24 "after the reading refusals", and the places after both
abbrev pub sheet_judged : List ℕ → List ℕ → SheetAnswer
sheet_judged bytes sheet = asked unread (sheet_in (Err BadSheet) places_in sheet) bytes

-- ---- the answer as one number

-- "one 64-bit number: 256 if all are answer sets, or the place from 0 of the first that isn't"; "A refusal is 65,536 times its number plus its spot".
-- A place is below the number of positions, and these are at most 256: so 256 is no place, and has the one meaning (`place_below`)
abbrev pub sheet_code : SheetAnswer → ℕ
sheet_code (Ok None) = 256
sheet_code (Ok (Some place)) = place
sheet_code (Err (Refused f)) = refusal_code f
sheet_code (Err BadSheet) = code_of 24 0

-- ---- what it means

-- "over 256 positions or a byte count not divisible by 8"
abbrev pub NoSheet : List ℕ → Type 0
NoSheet sheet = (MAX_POSITIONS < positions_in sheet) ⊎ (¬ (length sheet % WORD_BYTES ≡ 0))

-- the bytes of a sheet with these positions, written down apart from the reader
pub record Laid (positions sheet : List ℕ) : Type 0 where
  pub few : length positions ≤ MAX_POSITIONS
  pub words : All (λ M. M < WORD_VALUES) positions
  pub bytes_are : sheet ≡ flat_map word_bytes positions

-- 24 for what is no sheet, and otherwise an answer that is right of its positions
pub record SheetRight {A : Type 0} (bad : A) (PlacesRight : Plan → List ℕ → A → Type 0) (sheet : List ℕ) (p : Plan) (a : A) : Type 0 where
  pub no_sheet : NoSheet sheet → a ≡ bad
  pub of_sheet : (positions : List ℕ) → Laid positions sheet → PlacesRight p positions a

-- "all are answer sets"; "an empty sheet passes", since it has no place
pub record AllSettle (p : Plan) (positions : List ℕ) : Type 0 where
  pub each : (place : ℕ) → place < length positions → Settles p (get_or positions place 0)

-- "the place from 0 of the first that isn't"
pub record FirstNot (p : Plan) (positions : List ℕ) (place : ℕ) : Type 0 where
  pub within : place < length positions
  pub each_before : (q : ℕ) → q < place → Settles p (get_or positions q 0)
  pub not_here : ¬ Settles p (get_or positions place 0)

-- one of the two, and the answer says which
pub data PlacesRight (p : Plan) (positions : List ℕ) : SheetAnswer → Type 0 where
  all_settled : AllSettle p positions → PlacesRight p positions (Ok None)
  first_not : {place : ℕ} → FirstNot p positions place → PlacesRight p positions (Ok (Some place))

-- The answer equals the definition. By meaning: the fault that reading found; else 24, if the bytes are no sheet; else all positions are answer sets of the
-- whole program, or this place has the first that is not, and it is below 256. The rules and facts are those of the plan's lists. Bytes that are a sheet have
-- positions
pub record SheetJudged (bytes sheet : List ℕ) (answer : SheetAnswer) : Type 0 where
  pub answered : Answered unread (sheet_in (Err BadSheet) places_in sheet) (SheetRight (Err BadSheet) PlacesRight sheet) bytes answer
  pub laid : ¬ NoSheet sheet → (positions : List ℕ) × Laid positions sheet
  pub place_below : (place : ℕ) → answer ≡ Ok (Some place) → place < sheet_code (Ok None)
