-- The loop takes the units: none that is done covers the word.
use Rattle.joining.proofs.Prelude.{get_or, ◌⊆◌, Taking}
use Rattle.joining.proofs.nearest.is_covered.Given as goal

abbrev pub invariant-loop-v : goal.invariant-loop-v
invariant-loop-v l = Taking l.fn.units l.v-iterator.rest (λ v. ¬ (l.fn.word ⊆ get_or l.fn.heads v 0))
