-- What the proofs of this crate name of the kit, of the crates below and of its own definitions, each with its home.
pub use Rattle.atoms.proofs.Kit.{Bool, List, List-as-Memᴰ, [], ◌*◌, ◌++◌, ◌+◌, ◌-◌, ◌<◌, ◌↔◌, ◌∙◌, ◌∷◌, ◌≡◌, ◌≤◌, ◌⊎◌, add-one, ap, append_snoc, ap₂, arith}
pub use Rattle.atoms.proofs.Kit.{dec_lt, drop, drop-cons, drop_of_length-le, eq-eqb, false, get_or, inl, inr, length, length-set, length-take-le, min, ne_eqb}
pub use Rattle.atoms.proofs.Kit.{needs, refl, set, set_at, subst, suc, sym, take, take_all, take-nil, take-suc, true, ℕ}
pub use Rattle.demands.proofs.Demand1.{lays_accepted, lays_read}
pub use Rattle.demands.specs.Demand1.{FirstFault, graph_place, reading_place, table_place, work_place}
pub use Rattle.exports.specs.ExportedSheets.{SheetJudgeHanded}
pub use Rattle.exports.specs.HandedOut.{JudgeHanded, outcome_code}
unfoldable pub use Rattle.exports.specs.HandedOut.{copied}
pub use Rattle.exports.specs.Readings.{CompareHanded, LargestHanded, NumberHanded, ReadingHanded, SumHanded, added_code, compared_code, found_code}
pub use Rattle.exports.specs.Readings.{largest_code, largest_words, number_code, order_code, reading_code, refused_code, said_code, sum_code}
unfoldable pub use Rattle.exports.specs.Readings.{reading_asked}
pub use Rattle.exports.specs.Replies.{Replied, Reply}
pub use Rattle.judge.specs.Answers.{judge_code, judged, settled_in}
pub use Rattle.judge.specs.JudgedSheets.{AllSettle, FirstNot, Laid, PlacesRight, SheetJudged, SheetRight, all_settled, first_not, sheet_code}
pub use Rattle.packed_decimal.specs.declared.largest.Placed.{Placed}
pub use Rattle.packed_decimal.specs.declared.refusal.Refusal.{Refusal}
pub use Rattle.plan.specs.Faults.{CODE_STEP, RefusedBy, WIDEST_SPOT, refusal_code}
pub use Rattle.plan.specs.Limits.{COUNTS, MAX_RULES, MAX_UNITS}
pub use Rattle.plan.specs.declared.record.Plan.{Plan}
pub use Rattle.plan_meaning.specs.AnswerSets.{PlanAnswerSet}
pub use Rattle.plan_meaning.specs.Settled.{Settles, settled}
pub use Rattle.reading.proofs.JudgedBytes.{reading_judged}
pub use Rattle.reading.proofs.Limits.{all_bytes, record_fits}
pub use Rattle.reading.specs.Layout.{All, Contents, IsByte, Lays}
unfoldable pub use Rattle.reading.specs.Layout.{record_of}
pub use Rattle.reading.specs.Refusals.{Stopped}
pub use Rattle.reading.specs.Reading.{ReadPlan}
pub use Rattle.std.specs.Prelude.{Err, Ok, Option, Result}
