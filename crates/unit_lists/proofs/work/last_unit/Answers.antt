-- No rules, and an edge to every unit.
use Rattle.unit_lists.proofs.Face.{last_told}
use Rattle.unit_lists.proofs.work.last_unit.Goals as goal

pub returns : goal.returns
returns c =
    let all = rw c.first-every.ensures at c.union_of.ensures in
    rw c.first-every.ensures
    (last_told c.requires c.union.result c.nearest.result (rw all at c.union.ensures)
    (rw c.first-every.ensures at c.nearest.ensures))
