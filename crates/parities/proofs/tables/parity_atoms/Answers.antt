use Rattle.parities.proofs.Prelude.{◌≡◌, needs}
use Rattle.parities.proofs.Face.{gathering_start, gathering_lent, gathering_next, gathering_end}
use Rattle.parities.proofs.tables.parity_atoms.Goals as goal

pub loop-t-init : goal.loop-t-init
loop-t-init c =
    let all : c.into_iter-t-iterator.result.rest ≡ c.parity_tables.result = cc in
    rw all (gathering_start c.parity_tables.ensures)

pub table_inputs-requires : goal.table_inputs-requires
table_inputs-requires c = let t = gathering_lent c.loop-t.invariant c.in-Some.ensures.steps.lowest in (t.there, t.number)

pub bounds-pilots-t : goal.bounds-pilots-t
bounds-pilots-t c = let l = (gathering_lent c.loop-t.invariant c.in-Some.ensures.steps.lowest).number in search needs

pub loop-t-preserved : goal.loop-t-preserved
loop-t-preserved c = search (gathering_next, c.in-Some.ensures, needs)

pub returns : goal.returns
returns c = search (gathering_end, c.in-None.ensures, needs)
