-- The test over all rules of the record, whose words are all there and are lent where they stand.
use Rattle.judge.proofs.Prelude.{needs}
use Rattle.judge.proofs.Face.{whole_lent}
use Rattle.judge.proofs.is_settled.Goals as goal

pub is_answer_set-requires : goal.is_answer_set-requires
is_answer_set-requires c = search (whole_lent, needs)
