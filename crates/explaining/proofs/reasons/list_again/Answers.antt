-- The filter of all entries has each position's own.
use Rattle.explaining.proofs.Prelude.{needs}
use Rattle.joining.proofs.Filters.{full_filtered}
use Rattle.joining.proofs.JoinedLists.{joinable_some}
use Rattle.explaining.proofs.reasons.list_again.Goals as goal

pub filter_step-requires : goal.filter_step-requires
filter_step-requires c =
    let joinable = joinable_some c.args.cx.now.searchable.near c.args.cx.now.searchable.joinable in
    search (joinable, full_filtered, needs)
