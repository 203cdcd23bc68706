-- The loop carries what is counted, place by place.
use Rattle.atoms.proofs.Face.{Counting}
use Rattle.atoms.proofs.tally.count_atoms.Given as goal

abbrev pub invariant-loop-place : goal.invariant-loop-place
invariant-loop-place l = Counting l.fn.word l.initial.places l.places l.carried l.place-index
