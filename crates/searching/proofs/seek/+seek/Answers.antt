-- Each return is a case of the calculus, as in `explore`.
use Rattle.searching.proofs.Prelude.{refl, sym, ◌∙◌, not, decided_falls}
use Rattle.searching.proofs.Face.{belongs_answers, enough_met, nothing_wanted, sought_stop, sought_leaf, sought_met, sought_skip}
use Rattle.searching.proofs.Face.{sought_both, sought_handed, is_stop, is_leaf, is_open, entered_job, sought_branch}
use Rattle.searching.proofs.seek.+seek.Goals as goal

pub seek-first-requires : goal.seek-first-requires
seek-first-requires t c =
    let free = is_open _ _ c.in-Open.is c.requires.1 in (
      rw c.decreases at (decided_falls c.args.node.front.state c.phase_of-phase.result free.0 c.below-one.ensures.decided c.enter-here.ensures.narrows),
      entered_job c.below-one.ensures.same c.enter-here.ensures c.requires.2,
    )

pub returns-then-is_enough : goal.returns-then-is_enough
returns-then-is_enough t c =
    sought_met c.in-Open.i c.phase_of-phase.result c.below-one.ensures.decided
    (sought_branch c.below-one.ensures.same c.enter-here.ensures c.seek-first.ensures) refl
    (enough_met c.seek-first.result.witness (sym c.is_enough.ensures ∙ c.if-is_enough.true)).1

pub returns-then-lies_within : goal.returns-then-lies_within
returns-then-lies_within t c =
    sought_handed c.hand_up.ensures
    (sought_skip c.in-Open.i c.phase_of-phase.result c.below-one.ensures.decided
    (sought_branch c.below-one.ensures.same c.enter-here.ensures c.seek-first.ensures) (c.lies_within.ensures.yes c.if-lies_within.true))

pub seek-second-requires : goal.seek-second-requires
seek-second-requires t c =
    let free = is_open _ _ c.in-Open.is c.requires.1 in (
      rw c.decreases at
          (decided_falls c.args.node.front.state (not c.phase_of-phase.result) free.0 c.below-other.ensures.decided c.enter-there.ensures.narrows),
      entered_job c.below-other.ensures.same c.enter-there.ensures c.requires.2,
    )

pub returns-in-Stop : goal.returns-in-Stop
returns-in-Stop t c =
    sought_stop (nothing_wanted (λ M w. belongs_answers _ _ _ _ _ c.args.cx.now.numbered M w.belongs) (is_stop _ _ c.in-Stop.is c.requires.1))
    c.halt.ensures.is c.halt.ensures.remembers c.halt.ensures.nogood

pub returns-in-Leaf : goal.returns-in-Leaf
returns-in-Leaf t c =
    sought_leaf 0 (λ M w. w.belongs.word) (is_leaf _ _ c.in-Leaf.is c.requires.1) c.settle.ensures.witnessed c.requires.0 c.settle.ensures.nogood

pub returns-else-lies_within : goal.returns-else-lies_within
returns-else-lies_within t c =
    sought_handed c.hand_up-in-Open.ensures
    (sought_both c.in-Open.i c.phase_of-phase.result c.below-one.ensures.decided
    (sought_branch c.below-one.ensures.same c.enter-here.ensures c.seek-first.ensures) refl c.below-other.ensures.decided
    (sought_branch c.below-other.ensures.same c.enter-there.ensures c.seek-second.ensures) c.joined-both.ensures.is c.joined-both.ensures.resolves)
