-- What the proofs of this crate name of the kit, of the crates below and of its own definitions, each with its home.
pub use Rattle.atoms.proofs.Kit.{List, ◌++◌, ◌-◌, ◌<◌, ◌^◌, ◌∙◌, ◌≡◌, ◌≤◌, ap, ap₂, arith, dec_le, dec_lt, drop, drop_at, get_or, le-leb, length, length-append}
pub use Rattle.atoms.proofs.Kit.{length-drop, length-replicate, length-take, min, needs, refl, replicate, subst, suc, sym, take, take_all, take_at, zero}
pub use Rattle.atoms.proofs.Kit.{ℕ}
pub use Rattle.demands.specs.Answer.{Answer}
unfoldable pub use Rattle.demands.specs.Answer.{answer}
pub use Rattle.plan.specs.Limits.{LAST_COUNT, LAST_LIST, LIST_WORDS, TABLE_WORDS}
pub use Rattle.plan.specs.Faults.{Accepted, Refused}
pub use Rattle.plan_sheet.specs.PlanSheets.{KEPT_BYTES, Positions, Printed, SHEET_BYTES, SheetKept, SheetSays, written_bytes}
unfoldable pub use Rattle.plan_sheet.specs.PlanSheets.{plan_sheet, sheet_for, sheet_of}
pub use Rattle.sheet.specs.Sheet.{positions_sheet, refusal_sheet}
