-- What the proofs of this crate name of the kit, of the crates below and of its own definitions, each with its home.
pub use Rattle.atoms.proofs.Kit.{Bool, []}
pub use Rattle.atoms.proofs.Kit.{List, get_or-append}
pub use Rattle.atoms.proofs.Kit.{◌*◌, ◌++◌, ◌+◌, ◌-◌, ◌/◌, ◌<◌, ◌^◌}
pub use Rattle.atoms.proofs.Kit.{◌∙◌, ◌∷◌, ◌≡◌, ◌≤◌, ◌⊎◌, add-one}
pub use Rattle.atoms.proofs.Kit.{ap, append-nil, append_snoc, ap₂, arith}
pub use Rattle.atoms.proofs.Kit.{bool_byte}
pub use Rattle.atoms.proofs.Kit.{dec_lt, drop-cons}
pub use Rattle.atoms.proofs.Kit.{drop_of_length-le, each, eqb, ext_get_or}
pub use Rattle.atoms.proofs.Kit.{false}
pub use Rattle.atoms.proofs.Kit.{get_or}
pub use Rattle.atoms.proofs.Kit.{get_or-append_seam, get_or_at}
pub use Rattle.atoms.proofs.Kit.{inl, inr, le-ltb, length, length-append}
pub use Rattle.atoms.proofs.Kit.{length-drop, length-map, length-take, length-take-le}
pub use Rattle.atoms.proofs.Kit.{lt-ltb, map}
pub use Rattle.atoms.proofs.Kit.{needs}
pub use Rattle.atoms.proofs.Kit.{refl, replicate, returns}
pub use Rattle.atoms.proofs.Kit.{set, set_at}
pub use Rattle.atoms.proofs.Kit.{subst, suc, sym, take, take_all, take-suc, true}
pub use Rattle.atoms.proofs.Kit.{whole, yes}
pub use Rattle.atoms.proofs.Kit.{zero, ℕ}
pub use Rattle.atoms.proofs.Lists.{get_or_tabulate, padded_at, padded_long, padded_nil, padded_snoc, set_tabulate, tabulate_long, tabulate_same, tabulate_zero}
pub use Rattle.atoms.proofs.Sets.{cut_left, cut_right, decides_apart, decides_subset, empty, has_cut, has_dec, has_left, has_none, has_right, has_without}
pub use Rattle.atoms.proofs.Sets.{union_cases, without_left, without_right}
pub use Rattle.atoms.specs.Lists.{padded, tabulate}
pub use Rattle.atoms.specs.Word.{ATOMS, Has, ◌∖◌, ◌∩◌, ◌∪◌, below}
pub use Rattle.questions.specs.Counts.{CountsMean, FitsQuestion, MAX_QUESTIONS, Places, one}
unfoldable pub use Rattle.questions.specs.Counts.{counts_of, fits, fitting_count, held, up_to}
pub use Rattle.questions.specs.Questions.{QuestionsAnswered, with_its_count}
unfoldable pub use Rattle.questions.specs.Questions.{answered, asked_of, counted, outcome, with_counts}
pub use Rattle.questions.specs.declared.counter.Asked.{Asked}
pub use Rattle.questions.specs.declared.question.TooManyQuestions.{TooManyQuestions}
pub use Rattle.std.specs.Prelude.{Err, Ok, Result}
pub use Rattle.questions.specs.declared.question.Question.{Question}
pub use types.Kit.{drop, some}
