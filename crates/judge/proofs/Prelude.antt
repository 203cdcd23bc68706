-- What the proofs of this crate name of the kit, of the crates below and of its own definitions, each with its home.
pub use Rattle.answer_sets.specs.Lent.{Lent, lent}
pub use Rattle.answer_sets.specs.Test.{answer_set}
pub use Rattle.atoms.proofs.Kit.{Bool, List, Option, [], ◌%◌, ◌*◌, ◌++◌, ◌+◌, ◌-◌, ◌/◌, ◌<◌, ◌∙◌, ◌∷◌, ◌≡◌, ◌≤◌, ◌⊎◌, ap, ap₂, arith, dec_lt, drop}
pub use Rattle.atoms.proofs.Kit.{drop-append-add, eqb, eqb-false, eqb-true, false, get_or, inl, inr, le-ltb, length, length-drop, length-take, lt-ltb, min}
pub use Rattle.atoms.proofs.Kit.{needs, none, not, not-false, not-true, refl, some, subst, suc, sym, take, take-append-drop, true, true≢false, zero, ℕ}
pub use Rattle.atoms.proofs.Kit.{ℕ_discrete}
unfoldable pub use Rattle.atoms.proofs.Kit.{flat_map}
pub use Rattle.atoms.proofs.Tests.{decided_false, decided_true, not_both}
pub use Rattle.atoms.specs.Bounded.{Decides}
pub use Rattle.atoms.specs.Word.{Has, below}
pub use Rattle.judge.specs.Answers.{JudgeAnswer, Judged, is_yes, judge_code, judged, settled_in}
pub use Rattle.judge.specs.JudgedSheets.{Laid, MAX_POSITIONS, NoSheet, PlacesRight, SheetJudged, SheetRight, all_settled, first_not, position_at}
pub use Rattle.judge.specs.JudgedSheets.{positions_in, sheet_code, sheet_judged, unsettled_at}
unfoldable pub use Rattle.judge.specs.JudgedSheets.{bad_bytes, places_judged, sheet_in}
pub use Rattle.plan.specs.Faults.{CODE_STEP, WIDEST_SPOT, number, spot}
pub use Rattle.plan.specs.Record.{Fitting, empty_plan}
pub use Rattle.plan.specs.declared.fault.Fault.{Fault}
pub use Rattle.plan.specs.Faults.{Accepted, Outcome, Refused}
pub use Rattle.plan.specs.declared.record.Plan.{Plan}
pub use Rattle.plan_meaning.proofs.AskedPlans.{accepted_answered, asked_accepted, asked_refused, read_fits, refused_answered}
pub use Rattle.plan_meaning.specs.Settled.{Settles, settled}
pub use Rattle.reading.proofs.Limits.{all_bytes, record_fits}
pub use Rattle.reading.specs.Layout.{All, IsByte, word_bytes}
pub use Rattle.reading.specs.Reading.{DECIDING_BYTES, ReadPlan, Step, accepted, refused, command_bytes, ended, onward, step_of}
unfoldable pub use Rattle.reading.specs.Reading.{reading}
