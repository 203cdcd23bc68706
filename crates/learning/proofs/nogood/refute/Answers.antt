-- Nothing is missing of the up atoms, nothing of the dropped ones, or something of both.
use Rattle.learning.proofs.Prelude.{narrows_refl}
use Rattle.learning.proofs.Face.{refuted_up, refuted_down, within_up, within_dropped}
use Rattle.learning.proofs.nogood.refute.Goals as goal

pub returns-then-up-eq0 : goal.returns-then-up-eq0
returns-then-up-eq0 c = record {
  narrows = refuted_up _ _ c.without-up.ensures c.without-dropped.ensures c.if-up-eq0.true c.one_up.ensures;
  stops = λ w. c.one_up.ensures.stops (within_dropped _ _ c.without-up.ensures c.without-dropped.ensures w);
}

pub returns-then-dropped-eq0 : goal.returns-then-dropped-eq0
returns-then-dropped-eq0 c = record {
  narrows = refuted_down _ _ c.without-up.ensures c.without-dropped.ensures c.if-dropped-eq0.true c.one_down.ensures;
  stops = λ w. c.one_down.ensures.stops (within_up _ _ c.without-up.ensures c.without-dropped.ensures w);
}

pub returns : goal.returns
returns c = record { narrows = narrows_refl; stops = λ w. absurd (c.if-up-eq0.false (within_up _ _ c.without-up.ensures c.without-dropped.ensures w)) }
