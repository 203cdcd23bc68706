use Rattle.reading.proofs.Prelude.{refl, sym, ◌∙◌, arith, usage, needs}
use Rattle.reading.proofs.Face.{room_left, Turn, taken, use_there, next_fits, next_there, next_less}
use Rattle.reading.proofs.reader.read_uses.Goals as goal

pub with_use-taken-requires : goal.with_use-taken-requires
with_use-taken-requires c =
    let took : Turn c.loop-rule.invariant = (_, taken usage _ _ _ _ c.loop-rule.invariant c.in-Use.is refl) in
    let t = took.1 in
    let new = use_there _ _ _ _ _ _ t.leads.read (sym c.loop-rule.invariant.command_there ∙ c.in-Use.is) in
    let room = room_left usage t.leads.read.in_place in (
      omega (arith, new.rule_there, c.loop-rule.invariant.fitting.rules_fit),
      omega (arith, new.table_there, c.loop-rule.invariant.fitting.tables_fit),
      omega (arith, new.zero_or_one),
      omega arith,
    )

pub place-progress-requires : goal.place-progress-requires
place-progress-requires c = search (next_fits usage, needs)

pub loop-rule-smaller : goal.loop-rule-smaller
loop-rule-smaller c = search (next_less usage, needs)

pub loop-rule-preserved : goal.loop-rule-preserved
loop-rule-preserved c = search (next_there usage, needs)
