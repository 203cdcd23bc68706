-- What a sheet lacks. Document 02, S-12, judges the positions that are on it and "doesn't say the sheet is full"; this does.
use Rattle.std.specs.Prelude.{◌≡◌, Bool, true, false, ℕ, suc, ◌≤◌, ◌<◌, ltb, eqb, length, get_or}
use mathlib.Core.List.{List, Memᴰ}
use Rattle.std.specs.Prelude.{Option, None, Some, Result, Ok, Err}
use Rattle.atoms.specs.Bounded.{some_below}
use Rattle.atoms.specs.Collected.{lowest}
use Rattle.plan.specs.Faults.{code_of, refusal_code}
use Rattle.plan.specs.declared.record.Plan.{Plan}
use Rattle.plan_meaning.specs.Settled.{Settles, settled}
use Rattle.plan_meaning.specs.Asked.{asked, Answered}
use Rattle.judge.specs.JudgedSheets.{positions_in, position_at, sheet_in, NoSheet, Laid, SheetRight, unread}
use Rattle.stepping.specs.Followed.{may_be_up}
use Rattle.judge.specs.declared.sheet.SheetFault.{SheetFault}
use Rattle.judge.specs.declared.sheet.SheetFault.TheVariants.{Refused, BadSheet}

-- ---- the sheet's bytes

-- M stands on the sheet, at a place from 0
pub record OnSheet (sheet : List ℕ) (M : ℕ) : Type 0 where
  pub place : ℕ
  pub within : place < positions_in sheet
  pub is : position_at sheet place ≡ M

-- the first words are the positions of the sheet
pub record WordsRead (sheet words : List ℕ) (count : ℕ) : Type 0 where
  pub all : count ≡ positions_in sheet
  pub room : count ≤ length words
  pub each : (place : ℕ) → place < count → get_or words place 0 ≡ position_at sheet place

-- the least position that is missing, or none where the sheet is full; or why the question is refused
abbrev pub Audit : Type 0
Audit = Result (Option ℕ) SheetFault

-- ---- the answer, computed

-- `OnSheet`, computed
abbrev pub on_sheet : List ℕ → ℕ → Bool
on_sheet sheet M = some_below (positions_in sheet) (λ place. eqb (position_at sheet place) M)

-- an answer set that is not on the sheet, computed
abbrev pub lacking : Plan → List ℕ → ℕ → Bool
lacking p sheet M = elim (on_sheet sheet M) [ true ↦ false | false ↦ settled p M ]

-- the lowest such number, or none where the sheet is full; none is above the word of the atoms that may be up
unfoldable pub missing_in : Plan → List ℕ → Option ℕ
missing_in p sheet =
    let M = lowest (suc (may_be_up p)) (lacking p sheet) in
    elim (ltb M (suc (may_be_up p))) [ true ↦ Some M | false ↦ None ]

-- the same as an answer
abbrev pub lack_of : Plan → List ℕ → Audit
lack_of p sheet = Ok (missing_in p sheet)

-- the same for the bytes of a plan: the refusals of S-12 in their order, 24 "after the reading refusals"
abbrev pub audited : List ℕ → List ℕ → Audit
audited bytes sheet = asked unread (sheet_in (Err BadSheet) lack_of sheet) bytes

-- the answer as one number, beside the position
abbrev pub audit_code : Audit → ℕ
audit_code (Ok None) = 0
audit_code (Ok (Some M)) = 1
audit_code (Err (Refused f)) = refusal_code f
audit_code (Err BadSheet) = code_of 24 0

-- ---- what it means

-- the sheet is full: each answer set is among its positions
pub record IsFull (p : Plan) (positions : List ℕ) : Type 0 where
  pub each : (M : ℕ) → Settles p M → Memᴰ M positions

-- the least answer set that is not
pub record FirstMissing (p : Plan) (positions : List ℕ) (M : ℕ) : Type 0 where
  pub settles : Settles p M
  pub missing : ¬ Memᴰ M positions
  pub lowest_one : (N : ℕ) → Settles p N → ¬ Memᴰ N positions → M ≤ N

-- one of the two, and the answer says which
pub data AuditRight (p : Plan) (positions : List ℕ) : Audit → Type 0 where
  is_full : IsFull p positions → AuditRight p positions (Ok None)
  lacks_first : {M : ℕ} → FirstMissing p positions M → AuditRight p positions (Ok (Some M))

-- The answer equals the definition. By meaning: the fault that reading found; else 24, if the bytes are no sheet; else each answer set of the whole program
-- is among the positions, or this is the least that is not. The rules and facts are those of the plan's lists. Bytes that are a sheet have positions
pub record Audited (bytes sheet : List ℕ) (answer : Audit) : Type 0 where
  pub answered : Answered unread (sheet_in (Err BadSheet) lack_of sheet) (SheetRight (Err BadSheet) AuditRight sheet) bytes answer
  pub laid : ¬ NoSheet sheet → (positions : List ℕ) × Laid positions sheet
