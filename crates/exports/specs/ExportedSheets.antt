-- What a host is handed back of a sheet that it has judged (document 02, S-12): one number.
use Rattle.std.specs.Prelude.{◌≡◌, ◌↔◌, List, ℕ, ◌+◌, ◌*◌, ◌<◌}
use Rattle.plan.specs.Faults.{CODE_STEP}
use Rattle.reading.specs.Layout.{Contents, record_of, Lays}
use Rattle.reading.specs.Refusals.{Stopped}
use Rattle.plan_meaning.specs.Read.{ReadMeans}
use Rattle.judge.specs.JudgedSheets.{sheet_judged, sheet_code, NoSheet, Laid, AllSettle, FirstNot}

-- 256 exactly if all positions are answer sets of the plan's rules with its given atoms as facts; a place exactly if the position there is the first that is
-- not. A place is below 256, since a sheet has at most 256 positions. A reading fault by its number and spot, then 24 at 0. Bytes that are a sheet have
-- positions
pub record SheetJudgeHanded (bytes sheet : List ℕ) (r : ℕ) : Type 0 where
  pub code_is : r ≡ sheet_code (sheet_judged bytes sheet)
  pub refused : (n s : ℕ) → Stopped bytes n s → r ≡ CODE_STEP * n + s
  pub no_sheet : (c : Contents) → Lays bytes c → NoSheet sheet → r ≡ CODE_STEP * 24
  pub laid : ¬ NoSheet sheet → (positions : List ℕ) × Laid positions sheet
  pub all_settled : (c : Contents) → Lays bytes c → (positions : List ℕ) → Laid positions sheet → (r ≡ 256) ↔ AllSettle (record_of c) positions
  pub first_not : (c : Contents) → Lays bytes c → (positions : List ℕ) → Laid positions sheet → (place : ℕ)
      → ((place < 256) × (r ≡ place)) ↔ FirstNot (record_of c) positions place
  pub meaning : ReadMeans bytes
