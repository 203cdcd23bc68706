-- What the proofs of this crate name of the kit, of the crates below and of its own definitions, each with its home.
pub use Rattle.atoms.proofs.Counts.{taken_within}
pub use Rattle.atoms.proofs.Kit.{List, ◌<◌, ◌∙◌, arith, needs, refl, subst, sym, ℕ}
pub use Rattle.atoms.proofs.Sets.{subset_refl}
pub use Rattle.atoms.proofs.TakenNumbers.{taken_lent}
pub use Rattle.atoms.specs.Word.{◌⊆◌}
pub use Rattle.explaining.specs.Claims.{Told}
pub use Rattle.learning.proofs.HeededSteps.{heeds_narrows, lifted_after, pair_narrows, pairs_narrow}
pub use Rattle.learning.proofs.Reasons.{explains_told, leads_refl, lifted_learn, lifted_over, lifted_start, replaced_leads}
pub use Rattle.learning.specs.Reason.{Explains, Heeds, Lifted}
pub use Rattle.learning.specs.Store.{PAIRS}
pub use Rattle.plan.specs.Limits.{MAX_UNITS}
pub use Rattle.propagating.proofs.Desks.{pilots_long}
pub use Rattle.propagating.specs.Context.{WiredIn}
