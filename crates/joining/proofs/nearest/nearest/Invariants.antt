-- Some of the predecessors are left.
use Rattle.joining.proofs.Prelude.{◌⊆◌, Carrying}
use Rattle.joining.proofs.nearest.nearest.Given as goal

abbrev pub invariant-loop-v : goal.invariant-loop-v
invariant-loop-v l = Carrying l.initial.near l.v-iterator.rest (l.near ⊆ l.initial.near)
