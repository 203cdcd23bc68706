-- The inputs gathered use by use.
use Rattle.answer_sets.proofs.Prelude.{uses, USE_BITS, used_table, inputs}
use Rattle.atoms.proofs.GatheredWords.{Gathers}
use Rattle.answer_sets.proofs.uses.used_inputs.Given as goal

abbrev pub invariant-loop-i : goal.invariant-loop-i
invariant-loop-i l = Gathers USE_BITS (λ i. inputs l.fn.rules (used_table i)) (uses l.fn.rules l.fn.rule) l.all l.i-iterator.rest
