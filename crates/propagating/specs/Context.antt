-- Inner: short forms over the context of a unit's steps.
use Rattle.std.specs.Prelude.{List, ℕ}
use Rattle.states.specs.declared.state.State.{State}
use Rattle.joining.specs.Filter.{Filtered}
use Rattle.propagating.specs.Desk.{Wired}
use Rattle.propagating.specs.declared.context.Context.{Context}

-- what a search in the context looks for
abbrev pub WiredIn : Context → ℕ → Type 0
WiredIn cx = Wired cx.rules.now cx.table.now cx.counts.now cx.desk.now cx.unit

-- the filter has each entry that may still be joined in the context
abbrev pub FilteredIn : Context → State → List ℕ → Type 0
FilteredIn cx = Filtered cx.table.now cx.counts.now cx.desk.now cx.unit.nearest
