-- What a host is handed back of a sheet by relay (document 02, S-9): 0 with the lent area written, or the code of 22 with nothing written.
use Rattle.std.specs.Prelude.{◌≡◌, List, ℕ, length}
use Rattle.plan.specs.Faults.{code_of}
use Rattle.relay_rows.specs.RowAnswers.{Refusable, Suits, RowsWritten, PositionsWritten}

-- "Errors: 22, either lent area below 256 words or a count above 256, spot 0, nothing written"
pub record AreaHanded (read before after : List ℕ) (count : ℕ) (Right : Type 0) (r : ℕ) : Type 0 where
  pub refused : Refusable (length read) (length before) count → (r ≡ code_of 22 0) × (after ≡ before)
  pub written : Suits (length read) (length before) count → (r ≡ 0) × Right

-- there: the rows of a list
abbrev pub RowsHanded : List ℕ → ℕ → List ℕ → List ℕ → ℕ → Type 0
RowsHanded list count before after = AreaHanded list before after count (RowsWritten list count before after)

-- back: the list of rows
abbrev pub PositionsHanded : List ℕ → ℕ → List ℕ → List ℕ → ℕ → Type 0
PositionsHanded rows count before after = AreaHanded rows before after count (PositionsWritten rows count before after)
