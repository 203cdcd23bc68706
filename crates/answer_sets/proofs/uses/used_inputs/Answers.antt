use Rattle.answer_sets.proofs.Prelude.{used_inputs, needs}
use Rattle.answer_sets.proofs.Face.{used_inputs_read}
use Rattle.atoms.proofs.GatheredWords.{gathers_next, gathers_end, gathers_read}
use Rattle.atoms.proofs.EachAtom.{each_from}
use Rattle.answer_sets.proofs.uses.used_inputs.Goals as goal

pub loop-i-init : goal.loop-i-init
loop-i-init c = search (gathers_read, each_from, needs)

pub loop-i-preserved : goal.loop-i-preserved
loop-i-preserved c = search (gathers_next, used_inputs_read, c.in-Some.ensures, needs)

pub returns : goal.returns
unfolding used_inputs
returns c = search (gathers_end, needs)
