-- What the proofs of this crate name of the kit, of the crates below and of its own definitions, each with its home.
pub use Rattle.answer_sets.proofs.Support.{Supported, fewer_constraints, supported}
pub use Rattle.answer_sets.specs.AnswerSet.{AnswerSet}
pub use Rattle.answer_sets.specs.Lent.{Lent}
unfoldable pub use Rattle.answer_sets.specs.Lent.{asks, lent, use_holds, used_table, uses_hold}
unfoldable pub use Rattle.answer_sets.specs.Test.{answer_set, body, kept, kept_if, satisfies, satisfies_all, some_smaller}
pub use Rattle.atoms.proofs.Collected.{collects_iff, collects_same, collects_word}
pub use Rattle.atoms.proofs.Kit.{Bool, List, [], ◌++◌, ◌-◌, ◌<◌, ◌^◌, ◌↔◌, ◌∙◌, ◌∷◌, ◌≡◌, ◌≤◌, ◌⊎◌, ap, ap₂, arith, dec_lt, eqb, false, inl, inr, length}
pub use Rattle.atoms.proofs.Kit.{needs, ones, refl, subst, suc, sym, true, zero, ℕ, ℕ_discrete}
pub use Rattle.atoms.proofs.Sets.{atom_only, below_lt, decides_has, empty, ext, has_atom, has_below, has_dec, has_left, has_none, has_right, has_without}
pub use Rattle.atoms.proofs.Sets.{lt_of_has, some_atom, subset_le, subset_refl, subset_trans, union_cases, without_left, without_right}
pub use Rattle.atoms.proofs.TakenNumbers.{Sifts, sifts_drop, sifts_end, sifts_keep, sifts_start, taken_lent}
pub use Rattle.atoms.proofs.Tests.{decided_false, decided_true, decides_equal, not_both, test_cases}
pub use Rattle.atoms.specs.Bounded.{Decides}
unfoldable pub use Rattle.atoms.specs.Bounded.{all_below, some_below, union_in, word_below}
pub use Rattle.atoms.specs.Collected.{Collects}
unfoldable pub use Rattle.atoms.specs.Collected.{lowest}
pub use Rattle.atoms.specs.Word.{ATOMS, Has, Lowest, ◌⊆◌}
unfoldable pub use Rattle.atoms.specs.Word.{◌∖◌, ◌∩◌, ◌∪◌, apart, atom, below, has, subset}
pub use Rattle.blaming.specs.Blamed.{Among, AmongRules, BlameMeans, Blamed, Blames, Constraint, ConstraintsMean, Empties, LeastOrBlamed, LeavesOne}
pub use Rattle.blaming.specs.Blamed.{Positionless, StillHeld, TriedConstraint, blamed, constraint, constraints_in, headed, headed_rule, held, rules_with}
pub use Rattle.blaming.specs.Blamed.{stays, tried, untried, with_position, without}
unfoldable pub use Rattle.blaming.specs.Blamed.{blame_in, held_in, leaves, passed}
pub use Rattle.blaming.specs.declared.Blame.TheVariants.{Held, Position}
pub use Rattle.finding.specs.Few.{Constraints, FewBlamed, Going, NoneSettled, OneSettled, Tried, done, drops, keeps, tries}
pub use Rattle.plan.specs.Record.{Fitting}
unfoldable pub use Rattle.plan.specs.Record.{empty_plan, with_given, with_rule}
pub use Rattle.plan.specs.declared.record.Plan.{Plan}
pub use Rattle.plan_meaning.proofs.AskedPlans.{accepted_answered, read_fits, refused_answered}
unfoldable pub use Rattle.reading.specs.Reading.{reading, walk}
pub use Rattle.stepping.specs.Followed.{Follows, may_be_up}
unfoldable pub use Rattle.stepping.specs.Followed.{next_in}
pub use Rattle.std.specs.declared.option.Option.{Option}
pub use Rattle.std.specs.declared.option.Option.TheVariants.{None, Some}
pub use Rattle.std.specs.declared.result.Result.{Result}
pub use Rattle.std.specs.declared.result.Result.TheVariants.{Err, Ok}
