-- What the proofs of this crate name of the kit, of the crates below and of its own definitions, each with its home.
pub use Rattle.answer_sets.proofs.Bodies.{negative_down}
pub use Rattle.answer_sets.proofs.Parts.{completes_known, known_fails, up_apart, up_completes}
pub use Rattle.answer_sets.proofs.Support.{least, satisfied}
pub use Rattle.answer_sets.specs.AnswerSet.{AnswerSet, Kept, ReductModel}
pub use Rattle.answer_sets.specs.Known.{BodySays, InBody, Part, PartHolds}
pub use Rattle.answer_sets.specs.Lent.{IsLent, Lent, lent, looks, negative}
pub use Rattle.answer_sets.specs.Program.{Body, Program, Satisfies, SatisfiesAll}
pub use Rattle.answer_sets.specs.declared.truth.Truth.{Truth}
pub use Rattle.answer_sets.specs.declared.truth.Truth.TheVariants.{Fails, Holds, Open}
pub use Rattle.atoms.proofs.Counts.{count_proper, taken_within}
pub use Rattle.atoms.proofs.Kit.{Bool, List, ◌&&◌, ◌+◌, ◌<◌, ◌^◌, ◌↔◌, ◌∙◌, ◌≡◌, ◌≤◌, ◌⊎◌, ap, arith, false, false≢true, get_or, get_or-set_other}
pub use Rattle.atoms.proofs.Kit.{get_or-set_same, inl, inr, length, length-set, needs, not, not-false, not-true, ones, refl}
pub use Rattle.atoms.proofs.Kit.{replicate, set, subst, suc, sym, true, true≢false, zero, zero-add, ℕ, ℕ_discrete}
pub use Rattle.atoms.proofs.Sets.{apart_of_cut, atom_only, below_lt, cut_left, cut_right, decides_apart, decides_has, decides_subset}
pub use Rattle.atoms.proofs.Sets.{has_atom, has_below, has_cut}
pub use Rattle.atoms.proofs.Sets.{has_left, has_lt, has_none, has_right, has_without, shared_atom, subset_refl, subset_trans, union_cases, without_left}
pub use Rattle.atoms.proofs.Sets.{without_right}
pub use Rattle.atoms.proofs.Singles.{lacked_by, numbered_by}
pub use Rattle.atoms.proofs.TakenNumbers.{Taking, all_done, done_cases, none_done, taken_cases, taken_lent, taking_end, taking_more, taking_next}
pub use Rattle.atoms.proofs.TakenNumbers.{taking_start}
pub use Rattle.atoms.proofs.Tests.{and-true, decided, decided_false, decided_true, decides_iff, not_both, not_is_true, test_cases}
pub use Rattle.atoms.specs.Bounded.{Decides, some_below}
pub use Rattle.atoms.specs.Word.{ATOMS, Apart, Has, Lowest, ◌∖◌, ◌∩◌, ◌∪◌, ◌⊂◌, ◌⊆◌, apart, atom, below, has, subset}
pub use Rattle.narrowing.specs.Backers.{Backers, Backs, RuleBacks, RulesBack}
pub use Rattle.narrowing.specs.Inputs.{AnswersInputs}
pub use Rattle.narrowing.specs.Loops.{HeldAmong, HeldBy, HeldMore, HeldOn, HoldsUp, Looped}
pub use Rattle.narrowing.specs.Marks.{AddsAt, ByOne, Marked, NotedAt}
pub use Rattle.narrowing.specs.Stops.{AtStop, Chosen, IsLive, IsSpent, Stands, Unfailed, body_fails}
pub use Rattle.narrowing.specs.Stops.{head_up}
pub use Rattle.narrowing.specs.Support.{Excluded, SupportedIfUp, Supporters, Supports}
pub use Rattle.narrowing.specs.Unfounded.{Spares, Unfounded}
pub use Rattle.narrowing.specs.Wide.{IsWide}
pub use Rattle.narrowing.specs.Woken.{RULES_DOWN, RULES_UP, SUPPORTS_DOWN, SUPPORTS_UP, Wakes, fails_up, holds_up_of, rule_down, rule_up, support_down}
pub use Rattle.narrowing.specs.Woken.{support_up}
pub use Rattle.narrowing.specs.declared.choice.Standing.{Standing}
pub use Rattle.narrowing.specs.declared.choice.Standing.TheVariants.{Live, Spent, Stopped}
pub use Rattle.states.proofs.Narrows.{down_narrows, narrows_for, narrows_refl, narrows_trans, narrows_when, up_narrows}
pub use Rattle.states.specs.Narrowing.{Narrows}
pub use Rattle.states.specs.State.{Completes, half_decided}
pub use Rattle.states.specs.declared.state.State.{State}
