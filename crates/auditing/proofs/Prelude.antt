-- What the proofs of this crate name of the kit, of the crates below and of its own definitions, each with its home.
pub use Rattle.atoms.proofs.Kit.{Bool, List, List-as-Memᴰ, ◌+◌, ◌-◌, ◌<◌, ◌↔◌, ◌∙◌, ◌≡◌, ◌≤◌, ap, arith, drop, eqb, false, false≢true, get_or, get_or-set_other}
pub use Rattle.atoms.proofs.Kit.{get_or-set_same, get_or-take, inl, length, length-set, length-take, ltb, ltb-false, ltb-true, needs, refl, set, subst, suc}
pub use Rattle.atoms.proofs.Kit.{sym, take, true, true≢false, ℕ, ℕ_discrete}
pub use Rattle.finding.proofs.AddedWords.{added_iff, one_least, one_none}
pub use Rattle.plan_meaning.proofs.AskedPlans.{read_fits, refused_answered}
pub use Rattle.reading.specs.Layout.{All, IsByte}
