use Rattle.answer_sets.proofs.Prelude.{refl, needs, pass_falls}
use Rattle.answer_sets.proofs.Face.{sifted_more, rounds_narrow}
use Rattle.answer_sets.proofs.rounds.rounds.Goals as goal

pub loop-before-smaller : goal.loop-before-smaller
loop-before-smaller c = pass_falls c.loop-before.invariant.1 refl refl (c.is_moving.ensures c.loop-before-test.true) refl

pub loop-before-preserved : goal.loop-before-preserved
loop-before-preserved c = search (sifted_more, rounds_narrow, needs)
