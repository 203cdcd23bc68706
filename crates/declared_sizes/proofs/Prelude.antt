-- What the proofs of this crate name of the kit, of the crates below and of its own definitions, each with its home.
pub use Rattle.atoms.proofs.Kit.{List, List-as-Memᴰ, Memᴰ-append_cases, Memᴰ-tail, Memᴰ-append_left, Memᴰ-append_right, [], ◌*◌, ◌++◌, ◌+◌, ◌<◌, ◌∙◌}
pub use Rattle.atoms.proofs.Kit.{◌∷◌, ◌≡◌, ◌≤◌, ◌⊎◌, ap, append_assoc, arith, drop, drop_at, eqb, false, get_or, inl, inr, length, length-append, mul-suc, none}
pub use Rattle.atoms.proofs.Kit.{refl, replicate, some, subst, suc, sym, true, zero, ℕ}
unfoldable pub use Rattle.atoms.proofs.Kit.{flat_map}
pub use Rattle.plan.specs.Faults.{Accepted, Refused}
pub use Rattle.reading.proofs.CommandKinds.{end_in_time, kind_of_byte}
pub use Rattle.reading.proofs.Elements.{few_within, operands_long, operands_of}
pub use Rattle.reading.proofs.RoundTrip.{commands_read, layout_is_read}
pub use Rattle.reading.specs.Commands.{Kind, byte_of, command_at, edge, end, given, miscounted, operand_bytes, rule, show, single, sizes, table, unit, usage}
unfoldable pub use Rattle.reading.specs.Commands.{kind_of, of_kind}
pub use Rattle.reading.specs.Layout.{All, AllDistinct, Contents, CountRight, Element, GoodEdge, GoodOnce, IsByte, OnceElement, Sizes, SizesAgree, UnitPair}
pub use Rattle.reading.specs.Layout.{WithinLimits, at_most, count_bytes, edge_bytes, end_bytes, first_sizes, given_bytes, kind_count, layout, rule_bytes}
pub use Rattle.reading.specs.Layout.{show_bytes}
pub use Rattle.reading.specs.Layout.{table_bytes, unit_bytes, use_bytes}
unfoldable pub use Rattle.reading.specs.Layout.{commands, record_of}
pub use Rattle.reading.specs.Reading.{ReadPlan, accepted, reading, refused, step_of}
