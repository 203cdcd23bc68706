-- What the proofs of this crate name of the kit, of the crates below and of its own definitions, each with its home.
pub use Rattle.answer_sets.proofs.Support.{Supported, antichain, least, of_least, satisfied, supported}
pub use Rattle.answer_sets.specs.AnswerSet.{AnswerSet, Kept, ReductModel}
pub use Rattle.answer_sets.specs.Program.{Body, Program, Satisfies}
pub use Rattle.atoms.proofs.Collected.{collects_iff, collects_same}
pub use Rattle.atoms.proofs.Kit.{Bool, ◌<◌, ◌↔◌, ◌∙◌, ◌≡◌, ◌⊎◌, ap, arith, eq-eqb, eqb, false, inl, inr, ne_eqb, refl, subst, sym, true, ℕ, ℕ_discrete}
pub use Rattle.atoms.proofs.Sets.{below_lt, cut_left, cut_right, ext, has_below, has_cut, has_dec, has_left, has_none, has_right, has_without, subset_antisym}
pub use Rattle.atoms.proofs.Sets.{subset_refl, subset_trans, union_cases, without_left, without_right}
pub use Rattle.atoms.specs.Word.{Has, ◌∖◌, ◌∩◌, ◌∪◌, ◌⊆◌, below}
pub use Rattle.dependency_graph.proofs.Along.{along_edges}
pub use Rattle.dependency_graph.proofs.Heads.{heads_cases, heads_edge, heads_given, heads_input, heads_own, input_cases, input_edge, input_given, own_at}
pub use Rattle.dependency_graph.proofs.Heads.{own_has, path_end}
pub use Rattle.dependency_graph.proofs.Seen.{AllHeaded, Covers, Headed, body_down, body_up, covered, headed_covers, headed_subset, held_heads, own_apart}
pub use Rattle.dependency_graph.proofs.Seen.{own_unique}
pub use Rattle.dependency_graph.proofs.Under.{Under, collects_head_atoms, collects_input_atoms, cut_heads, down, heads_source, heads_under, here, under_edge}
pub use Rattle.dependency_graph.proofs.Under.{under_unit}
pub use Rattle.dependency_graph.specs.Graph.{Passes, Sees}
pub use Rattle.dependency_graph.specs.Heads.{Cut, HeadAtom, InputAtom, given_head, given_input, head_input, heads, input_heads, own, own_head, reached_head}
pub use Rattle.dependency_graph.specs.Units.{Edge, GivenFree, Holds, LooksOnly, Path, Units, more, one}
pub use Rattle.splitting.specs.UnitList.{Agree, Clean, Listed, SameRule, SameUnit, listed}
unfoldable pub use Rattle.splitting.specs.UnitList.{with_last}
