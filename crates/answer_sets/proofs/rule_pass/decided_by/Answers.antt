-- The body would hold with the atom up, with the atom dropped, or neither is known.
use Rattle.answer_sets.proofs.Prelude.{needs}
use Rattle.answer_sets.proofs.Face.{last_dropped, last_up}
use Rattle.answer_sets.proofs.rule_pass.decided_by.Goals as goal

pub returns-then-is_held : goal.returns-then-is_held
returns-then-is_held c = search (last_dropped, needs)

pub returns-then-is_held-2 : goal.returns-then-is_held-2
returns-then-is_held-2 c = search (last_up, needs)
