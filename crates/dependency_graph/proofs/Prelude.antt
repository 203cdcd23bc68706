-- What the proofs of this crate name of the kit, of the crates below and of its own definitions, each with its home.
pub use Rattle.atoms.proofs.Bounded.{union_at, union_has, union_in_same, word_at, word_has}
pub use Rattle.atoms.proofs.Collected.{collects_below, collects_cut, collects_dec, collects_has, collects_iff, collects_lowest_of, collects_none, collects_some}
pub use Rattle.atoms.proofs.Collected.{collects_union, collects_union_in, collects_without, collects_word, least_same, lowest_here, lowest_is, lowest_le}
pub use Rattle.atoms.proofs.Collected.{lowest_least, lowest_none, lowest_of_lem}
pub use Rattle.atoms.proofs.Counts.{count_lt}
pub use Rattle.atoms.proofs.EachAtom.{each_of}
pub use Rattle.atoms.proofs.Kit.{Bool, List, List-as-Memᴰ, Memᴰ-cases_cons, Memᴰ-head, Memᴰ-not-nil, Memᴰ-tail, [], ◌&&◌, ◌++◌, ◌+◌, ◌<◌, ◌↔◌, ◌∙◌, ◌∷◌, ◌≡◌}
pub use Rattle.atoms.proofs.Kit.{◌≤◌, ◌⊎◌, add-one, ap, ap₂, arith, dec_lt, eq-eqb, eqb, false, get_or, get_or-set_other, get_or-set_same, inl, inr, length}
pub use Rattle.atoms.proofs.Kit.{length-set, ltb, ltb-false, ltb-true, map, ne_eqb, needs, not, not-true, ones, ones-le, refl, replicate, set, subst, subst₂}
pub use Rattle.atoms.proofs.Kit.{suc, sym, true, zero, ℕ, ℕ_discrete}
pub use Rattle.atoms.proofs.Sets.{apart_of_cut, atom_only, below_lt, cut_left, cut_right, decides_apart, decides_has, decides_subset, ext, has_atom, has_below}
pub use Rattle.atoms.proofs.Sets.{has_cut, has_dec, has_left, has_none, has_right, has_without, lt_of_has, shared_atom, some_atom, subset_lt, union_cases}
pub use Rattle.atoms.proofs.Sets.{union_swap, without_left, without_right}
pub use Rattle.atoms.proofs.Singles.{has_is_test, has_of_test, lacks_of_test, single_if_at, single_if_has}
pub use Rattle.atoms.proofs.Tests.{and-true, decided, decided_true, decides_and, decides_equal, decides_iff, decides_not, not_both}
pub use Rattle.atoms.specs.Bounded.{Decides, single_if}
unfoldable pub use Rattle.atoms.specs.Bounded.{union_in, word_below}
pub use Rattle.atoms.specs.Collected.{Collects, Least}
unfoldable pub use Rattle.atoms.specs.Collected.{lowest, lowest_of}
pub use Rattle.atoms.specs.Word.{ATOMS, Apart, Has, Lowest, ◌⊆◌}
unfoldable pub use Rattle.atoms.specs.Word.{◌∖◌, ◌∩◌, ◌∪◌, apart, atom, below, has, subset}
pub use Rattle.dependency_graph.specs.Check.{VerdictRight, passes, row_10, row_11, row_12, row_13, row_14, row_16}
unfoldable pub use Rattle.dependency_graph.specs.Check.{fault_or, verdict}
pub use Rattle.dependency_graph.specs.Filled.{FilledFirst}
pub use Rattle.dependency_graph.specs.Gathered.{HoldingOf, UnionOver}
pub use Rattle.dependency_graph.specs.Graph.{Acyclic, ConditionA, ConditionB, ConditionC, ConditionD, Monotonic, Nonmonotonic, Passes, Sees, Share}
pub use Rattle.dependency_graph.specs.Heads.{Cut, HeadAtom, InputAtom, given_head, given_input, head_input, own_head, reached_head}
unfoldable pub use Rattle.dependency_graph.specs.Heads.{heads, input_heads, own, reach, reach_via, through}
pub use Rattle.dependency_graph.specs.Offenders.{Cycle, GivenInHead, HeadedRuleInSeveral, MonotonicUnseen, NonmonotonicUnseen, RuleInNoUnit, union_below}
unfoldable pub use Rattle.dependency_graph.specs.Offenders.{cycle, given_in_head, headed_rule_in_several, monotonic_seen_in, monotonic_unseen}
unfoldable pub use Rattle.dependency_graph.specs.Offenders.{nonmonotonic_unseen, nonmonotonic_unseen_in, rule_in_no_unit, seen, twice_below, unseen_heads}
pub use Rattle.dependency_graph.specs.Order.{InOrder, Ready, all_done, next}
unfoldable pub use Rattle.dependency_graph.specs.Order.{next_unit, order_from, ready, working_order}
unfoldable pub use Rattle.dependency_graph.specs.PlanUnits.{units_of}
pub use Rattle.dependency_graph.specs.Units.{Edge, GivenFree, Holds, LooksOnly, Path, Units, more, one}
pub use Rattle.plan.specs.declared.fault.Fault.{Fault}
pub use Rattle.plan.specs.Faults.{Accepted, Outcome, Refused}
pub use Rattle.plan.specs.declared.record.Plan.{Plan}
