use Rattle.reading.proofs.Prelude.{refl, sym, ◌∙◌, arith, edge, needs}
use Rattle.reading.proofs.Face.{Turn, taken, edge_there, next_fits, next_there, next_less}
use Rattle.reading.proofs.reader.read_edges.Goals as goal

pub with_edge-taken-requires : goal.with_edge-taken-requires
with_edge-taken-requires c =
    let took : Turn c.loop-u.invariant = (_, taken edge _ _ _ _ c.loop-u.invariant c.in-Edge.is refl) in
    let t = took.1 in
    let new = edge_there _ _ _ _ _ t.leads.read (sym c.loop-u.invariant.command_there ∙ c.in-Edge.is) in
    (omega (arith, new.from_there), omega (arith, new.to_there), omega (arith, t.inside, c.loop-u.invariant.few_edges))

pub place-progress-requires : goal.place-progress-requires
place-progress-requires c = search (next_fits edge, needs)

pub loop-u-smaller : goal.loop-u-smaller
loop-u-smaller c = search (next_less edge, needs)

pub loop-u-preserved : goal.loop-u-preserved
loop-u-preserved c = search (next_there edge, needs)
