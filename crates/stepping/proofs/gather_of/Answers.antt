-- All rules of the record, whose words are lent where they stand.
use Rattle.stepping.proofs.Prelude.{whole_lent, needs}
use Rattle.stepping.proofs.gather_of.Goals as goal

pub gather_all-requires : goal.gather_all-requires
gather_all-requires c = search (whole_lent, needs)
