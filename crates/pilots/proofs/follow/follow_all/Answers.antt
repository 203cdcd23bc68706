use Rattle.pilots.proofs.Prelude.{needs}
use Rattle.pilots.proofs.Face.{followed_start, followed_next, followed_end, not_followed, none_follow}
use Rattle.pilots.proofs.follow.follow_all.Goals as goal

pub returns-then-are_none : goal.returns-then-are_none
returns-then-are_none c = none_follow (c.are_none.ensures.yes c.if-are_none.true)

pub loop-t-init : goal.loop-t-init
loop-t-init c = followed_start

pub returns-then-not-follows : goal.returns-then-not-follows
returns-then-not-follows c = not_followed (search needs) (c.follows.ensures.no c.if-not-follows.true)

pub loop-t-preserved : goal.loop-t-preserved
loop-t-preserved c = followed_next c.loop-t.invariant (c.follows.ensures.yes c.if-not-follows.false)

pub returns : goal.returns
returns c = search (followed_end, needs)
