use Rattle.reading.proofs.Prelude.{refl, rule, needs}
use Rattle.reading.proofs.Face.{room_left, Turn, taken, next_fits, next_there, next_less}
use Rattle.reading.proofs.reader.read_rules.Goals as goal

pub with_rule-taken-requires : goal.with_rule-taken-requires
with_rule-taken-requires c =
    let took : Turn c.loop-head.invariant = (_, taken rule _ _ _ _ c.loop-head.invariant c.in-Rule.is refl) in
    room_left rule took.1.leads.read.in_place

pub place-progress-requires : goal.place-progress-requires
place-progress-requires c = search (next_fits rule, needs)

pub loop-head-smaller : goal.loop-head-smaller
loop-head-smaller c = search (next_less rule, needs)

pub loop-head-preserved : goal.loop-head-preserved
loop-head-preserved c = search (next_there rule, needs)
