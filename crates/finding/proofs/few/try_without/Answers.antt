-- An answer set without the constraint keeps it.
use Rattle.finding.proofs.Prelude.{needs}
use Rattle.finding.proofs.Face.{lent_some, others_within, tried_keeps, tried_drops}
use Rattle.finding.proofs.few.try_without.Goals as goal

pub any-found-requires : goal.any-found-requires
any-found-requires c = search (lent_some, others_within, needs)

pub returns-in-Some : goal.returns-in-Some
returns-in-Some c = search (tried_keeps, needs)

pub returns-in-None : goal.returns-in-None
returns-in-None c = tried_drops c.drop-others.ensures c.union.ensures c.in-None.is c.any-found.ensures
