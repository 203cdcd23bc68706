-- Each return is a case of the node: a stop, a leaf, the first branch is enough, the second has nothing, or both are searched.
use Rattle.searching.proofs.Prelude.{not, decided_falls, filtered_branch}
use Rattle.searching.proofs.Face.{gathered_ordered, belongs_answers, explored_stop, explored_leaf, explored_done, explored_skip, explored_both}
use Rattle.searching.proofs.Face.{is_stop, is_leaf, is_open, entered_ready, explored_branch}
use Rattle.searching.proofs.search.+explore.Goals as goal

pub enter-here-requires : goal.enter-here-requires
enter-here-requires t c = (
  c.requires.1,
  filtered_branch c.args.node.front.state c.in-Open.i c.phase_of-phase.result c.below-one.ensures.decided (rw c.copied-mine.ensures c.requires.2),
)

pub explore-first-requires : goal.explore-first-requires
explore-first-requires t c =
    let free = is_open _ _ c.in-Open.is c.requires.3 in (
      rw c.decreases at (decided_falls c.args.node.front.state c.phase_of-phase.result free.0 c.below-one.ensures.decided c.enter-here.ensures.narrows),
      entered_ready c.below-one.ensures.same c.enter-here.ensures c.requires.0 c.requires.4,
    )

pub returns-then-is_done-clause-explored : goal.returns-then-is_done-clause-explored
returns-then-is_done-clause-explored t c =
    explored_done c.in-Open.i c.phase_of-phase.result c.below-one.ensures.decided
    (explored_branch c.below-one.ensures.same c.enter-here.ensures c.explore-first.ensures.explored)
    (rw c.undecided.ensures at c.cut.ensures) (c.is_done.ensures.done c.if-is_done.true)

pub returns-then-lies_within-clause-explored : goal.returns-then-lies_within-clause-explored
returns-then-lies_within-clause-explored t c =
    explored_skip c.in-Open.i c.phase_of-phase.result c.below-one.ensures.decided
    (explored_branch c.below-one.ensures.same c.enter-here.ensures c.explore-first.ensures.explored)
    (c.lies_within.ensures.yes c.if-lies_within.true) c.hand_up.ensures

pub enter-there-requires : goal.enter-there-requires
enter-there-requires t c = (
  (explored_branch c.below-one.ensures.same c.enter-here.ensures c.explore-first.ensures.explored).sought.remembers,
  filtered_branch c.args.node.front.state c.in-Open.i (not c.phase_of-phase.result) c.below-other.ensures.decided
      (rw c.copied-mine-in-Open.ensures c.requires.2),
)

pub explore-second-requires : goal.explore-second-requires
explore-second-requires t c =
    let free = is_open _ _ c.in-Open.is c.requires.3 in (
      rw c.decreases at
          (decided_falls c.args.node.front.state (not c.phase_of-phase.result) free.0 c.below-other.ensures.decided c.enter-there.ensures.narrows),
      entered_ready c.below-other.ensures.same c.enter-there.ensures
          (gathered_ordered (c.is_done.ensures.room c.if-is_done.false) c.explore-first.ensures.explored.gathered) c.explore-first.ensures.memo,
    )

pub returns-in-Stop-clause-explored : goal.returns-in-Stop-clause-explored
returns-in-Stop-clause-explored t c =
    explored_stop (λ M w. belongs_answers _ _ _ _ _ c.args.cx.now.numbered M w.belongs) c.requires.0 (is_stop _ _ c.in-Stop.is c.requires.3)
    c.halt.ensures.is c.halt.ensures.remembers c.halt.ensures.nogood

pub returns-in-Leaf-clause-explored : goal.returns-in-Leaf-clause-explored
returns-in-Leaf-clause-explored t c =
    let told = c.offer.ensures in
    explored_leaf (λ M w. w.belongs.word) (is_leaf _ _ c.in-Leaf.is c.requires.3) told.gathered told.witnessed told.remembers told.nogood

pub returns-else-lies_within-clause-explored : goal.returns-else-lies_within-clause-explored
returns-else-lies_within-clause-explored t c =
    explored_both c.in-Open.i c.phase_of-phase.result c.below-one.ensures.decided
    (explored_branch c.below-one.ensures.same c.enter-here.ensures c.explore-first.ensures.explored)
    (c.is_done.ensures.room c.if-is_done.false) c.below-other.ensures.decided
    (explored_branch c.below-other.ensures.same c.enter-there.ensures c.explore-second.ensures.explored)
    c.joined-both.ensures.is c.joined-both.ensures.resolves c.hand_up-in-Open.ensures
