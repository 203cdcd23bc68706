-- One barred, all wanted, or neither.
use Rattle.answer_sets.proofs.Prelude.{needs}
use Rattle.answer_sets.proofs.Face.{word_fails, word_holds, word_open}
use Rattle.answer_sets.proofs.truth.word_known.Goals as goal

pub returns-then-not-are_apart : goal.returns-then-not-are_apart
returns-then-not-are_apart c = search (word_fails, needs)

pub returns-then-is_subset : goal.returns-then-is_subset
returns-then-is_subset c = search (word_holds, needs)

pub returns : goal.returns
returns c = search (word_open, needs)
