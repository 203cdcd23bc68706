-- The word at place k of the six.
use Rattle.contact_tables.proofs.Prelude.{needs}
use Rattle.contact_tables.proofs.Face.{column_collects}
use Rattle.contact_tables.proofs.rows.column.Goals as goal

pub returns : goal.returns
returns c = search (column_collects, needs)
