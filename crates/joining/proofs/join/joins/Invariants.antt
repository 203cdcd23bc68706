-- The loop takes the predecessors: each that is done has the position's cut in its list.
use Rattle.joining.proofs.Prelude.{◌≡◌, true, ◌*◌, get_or, ◌∩◌, Taking, LIST_WORDS, is_listed}
use Rattle.joining.proofs.join.joins.Given as goal

abbrev pub invariant-loop-v : goal.invariant-loop-v
invariant-loop-v l =
    Taking l.fn.predecessors l.v-iterator.rest
    (λ v. is_listed l.fn.table (LIST_WORDS * v) (get_or l.fn.counts v 0) (l.fn.position ∩ get_or l.fn.heads v 0) ≡ true)
