-- Nothing shows, so the list holds one cut at most, and the witness says whether a member was met.
use Rattle.searching.proofs.Prelude.{joinable_some, full_filtered}
use Rattle.searching.proofs.Face.{hidden_few, zeros_ordered, explored_witnessed, entered_ready, explored_branch}
use Rattle.searching.proofs.find.find.Goals as goal

pub enter-node-requires : goal.enter-node-requires
enter-node-requires c =
    let cx = c.args.cx.now in
    rw c.root-branch.ensures
    (c.requires, full_filtered _ _ _ _ _ _ (joinable_some cx.searchable.near cx.searchable.joinable) c.full_filter-filter.ensures)

pub explore-found-requires : goal.explore-found-requires
explore-found-requires c = entered_ready c.root-branch.ensures c.enter-node.ensures zeros_ordered (c.blank_memo-memo.ensures.memo _)

pub returns-clause-witnessed : goal.returns-clause-witnessed
returns-clause-witnessed c =
    let told = explored_branch c.root-branch.ensures c.enter-node.ensures c.explore-found.ensures.explored in
    rw (c.moved.ensures, c.union.ensures, c.union-2.ensures) at (explored_witnessed (λ M w. w.belongs.word) told (hidden_few told.gathered))
