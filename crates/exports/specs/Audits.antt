-- What a host is handed back of what a sheet lacks (beside document 02, S-12).
use Rattle.std.specs.Prelude.{◌≡◌, ◌↔◌, List, [], ◌∷◌, ℕ, ◌*◌, None, Some, Ok, Err}
use Rattle.plan.specs.Faults.{CODE_STEP}
use Rattle.reading.specs.Layout.{Contents, record_of, Lays}
use Rattle.plan_meaning.specs.Read.{ReadMeans}
use Rattle.judge.specs.JudgedSheets.{NoSheet, Laid, SheetRight}
use Rattle.auditing.specs.Audit.{Audit, audited, IsFull, AuditRight, audit_code}
use Rattle.judge.specs.declared.sheet.SheetFault.TheVariants.{BadSheet}
use Rattle.exports.specs.HandedOut.{copied}
use Rattle.exports.specs.Replies.{Replied}

-- the lent words afterwards: a position in the first, if there is room, and all others as they were
abbrev pub lack_in : Audit → List ℕ → List ℕ
lack_in (Ok None) found = found
lack_in (Ok (Some M)) found = copied (M ∷ []) found
lack_in (Err f) found = found

-- that each answer set of the plan's rules with its given atoms as facts is on the sheet, or the least that is not; 0 exactly in the first case; after the
-- reading faults 24 at 0, and nothing written. What is a sheet has positions
pub record MissingHanded (bytes sheet found found' : List ℕ) (r : ℕ) : Type 0 where
  pub replied : Replied audit_code lack_in (SheetRight (Err BadSheet) AuditRight sheet) (audited bytes sheet) bytes found found' r
  pub full : (c : Contents) → Lays bytes c → (positions : List ℕ) → Laid positions sheet → (r ≡ 0) ↔ IsFull (record_of c) positions
  pub no_sheet : (c : Contents) → Lays bytes c → NoSheet sheet → (r ≡ CODE_STEP * 24) × (found' ≡ found)
  pub laid : ¬ NoSheet sheet → (positions : List ℕ) × Laid positions sheet
  pub meaning : ReadMeans bytes
