-- A table that has a pilot is noted; one that has none is not.
use Rattle.propagating.proofs.Prelude.{ap, ◌∙◌, ℕ, get_or, ◌∪◌, needs}
use Rattle.propagating.proofs.Face.{table_added, table_left}
use Rattle.propagating.proofs.agenda.note_table.Goals as goal

pub returns-then-pilot-eq0 : goal.returns-then-pilot-eq0
returns-then-pilot-eq0 c = search (table_left, needs)

pub returns : goal.returns
returns c =
    table_added c.args.linked.now c.args.pilots.now c.args.t c.if-pilot-eq0.false
    (c.union-seen.ensures ∙ ap (λ (w : ℕ). w ∪ get_or c.args.pilots.now c.args.t 0) c.table_inputs.ensures) c.single.ensures
    c.mark.ensures
