-- What the proofs of this crate name of the kit, of the crates below and of its own definitions, each with its home.
pub use Rattle.antichains.specs.Family.{Antichain, Incomparable, antichain_cons, antichain_nil, middle_binomial}
unfoldable pub use Rattle.antichains.specs.Family.{binomial}
pub use Rattle.antichains.specs.HeadAtoms.{FewHeads}
unfoldable pub use Rattle.antichains.specs.HeadAtoms.{head_atoms_of}
pub use Rattle.antichains.specs.TenHeads.{CodeFits, ListingFits, SheetFits, TenHeaded}
pub use Rattle.atoms.proofs.Kit.{Bool, List, List-as-Memᴰ, Memᴰ-cases_cons, Memᴰ-head, Memᴰ-not-nil, Memᴰ-tail, Memᴰ-cast, Memᴰ-map}
pub use Rattle.atoms.proofs.Kit.{Memᴰ-of_map, [], ◌++◌, ◌+◌, ◌-◌, ◌/◌, ◌<◌, ◌↔◌, ◌∙◌, ◌∷◌, ◌≡◌, ◌≤◌, ◌⊎◌, ap, arith, dec_lt, false, get_or, inl, inr, length}
pub use Rattle.atoms.proofs.Kit.{length-map, ltb, ltb-true, map, refl, replicate, subst, suc, sym, take, true, true≢false, zero, ℕ, ℕ_discrete}
unfoldable pub use Rattle.atoms.proofs.Kit.{flat_map, ones}
pub use Rattle.atoms.proofs.Sets.{atom_only, empty, ext, has_below, has_dec, has_left, has_none, has_right, has_without, some_atom, subset_antisym}
pub use Rattle.atoms.proofs.Sets.{subset_of_eq, subset_trans, union_cases, without_left, without_right}
pub use Rattle.atoms.specs.Word.{Has, ◌⊂◌, ◌⊆◌}
unfoldable pub use Rattle.atoms.specs.Word.{◌∖◌, ◌∩◌, ◌∪◌, apart, atom, below, has, subset}
pub use Rattle.demands.specs.Demands.{FitsList, ListOf, Shown}
pub use Rattle.dependency_graph.specs.Graph.{Passes}
unfoldable pub use Rattle.dependency_graph.specs.Heads.{own, reach, reach_via, through}
unfoldable pub use Rattle.dependency_graph.specs.PlanUnits.{units_of}
pub use Rattle.dependency_graph.specs.Units.{Units}
pub use Rattle.reading.specs.Layout.{All, Contents, IsByte, WithinLimits, predecessors_of}
unfoldable pub use Rattle.reading.specs.Layout.{record_of}
unfoldable pub use Rattle.reading.specs.Reading.{reading, walk}
pub use Rattle.splitting.proofs.Antichain.{list_antichain}
pub use Rattle.splitting.proofs.Last.{last_passes}
pub use Rattle.splitting.specs.UnitList.{Clean, Listed}
unfoldable pub use Rattle.splitting.specs.UnitList.{with_last}
