-- With the whole head dropped the body fails, where one atom is left by that atom.
use Rattle.answer_sets.proofs.Prelude.{needs}
use Rattle.answer_sets.proofs.Face.{subset_left, at_most_said}
use Rattle.answer_sets.proofs.rule_pass.denied.Goals as goal

pub decided_by-requires : goal.decided_by-requires
decided_by-requires c = search (subset_left, at_most_said, needs)
