-- What the proofs of this crate name of the kit, of the crates below and of its own definitions, each with its home.
pub use Rattle.atoms.proofs.Kit.{[], ◌<◌, ◌↔◌, ◌∙◌, ◌∷◌, ◌≡◌, ap, ap₂, arith, get_or, needs, refl, subst, sym, ℕ}
pub use Rattle.plan.specs.Faults.{CODE_STEP, RefusedBy, code_of, number, spot}
unfoldable pub use Rattle.plan.specs.Record.{empty_plan, with_count, with_edge, with_given, with_rule, with_show, with_table, with_unit, with_use}
pub use Rattle.plan.specs.declared.fault.Fault.{Fault}
pub use Rattle.plan.specs.declared.fault.Fault.TheVariants.{AbsentRule, BadEdge, BadTable, BadUse, ContradictoryBody, Cycle, EmptyRule, GivenInHead}
pub use Rattle.plan.specs.declared.fault.Fault.TheVariants.{HeadedRuleInSeveral, LongList, MonotonicUnseen, NonmonotonicUnseen, OutOfOrder}
pub use Rattle.plan.specs.declared.fault.Fault.TheVariants.{RuleInNoUnit, TableShort, TooMany, TrailingBytes, Truncated, UnknownCommand, WrongCount}
