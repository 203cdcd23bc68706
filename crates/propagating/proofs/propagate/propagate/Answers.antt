use Rattle.propagating.proofs.Prelude.{needs, narrows_refl, narrows_trans, filtered_narrows}
use Rattle.learning.proofs.Reasons.{remembers_same, remembers_keeps, remembered_narrows}
use Rattle.propagating.proofs.propagate.propagate.Goals as goal

pub loop-i-init : goal.loop-i-init
loop-i-init c = search (narrows_refl, needs)

pub returns-then-i-ge-RING : goal.returns-then-i-ge-RING
returns-then-i-ge-RING c = search (narrows_trans, remembers_same, needs)

pub loop-i-preserved : goal.loop-i-preserved
loop-i-preserved c =
    let known = remembers_same c.loop-i.invariant.2 c.run_agenda-f.ensures.same in (
      narrows_trans c.loop-i.invariant.0 (narrows_trans c.run_agenda-f.ensures.narrows (remembered_narrows known c.take_pair-f.ensures.narrows)),
      search (filtered_narrows, needs),
      remembers_keeps known known.avoids c.take_pair-f.ensures.keeps,
      search needs,
      search needs,
    )
