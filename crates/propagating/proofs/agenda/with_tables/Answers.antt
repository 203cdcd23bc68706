-- The places are added to the third word.
use Rattle.propagating.proofs.Prelude.{refl, collects_has, collects_union}
use Rattle.propagating.proofs.agenda.with_tables.Goals as goal

pub returns : goal.returns
returns c = record { same = (refl, refl); others = rw c.union.ensures (collects_union (collects_has _) c.table_places.ensures) }
