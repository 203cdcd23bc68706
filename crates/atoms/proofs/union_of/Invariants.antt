-- Words gathered number by number: what is gathered and what the rest would add make the whole.
use Rattle.atoms.proofs.Prelude.{get_or}
use Rattle.atoms.proofs.GatheredWords.{Gathers}
use Rattle.atoms.proofs.union_of.Given as goal

abbrev pub invariant-loop-i : goal.invariant-loop-i
invariant-loop-i l = Gathers l.fn.n (λ i. get_or l.fn.words i 0) l.fn.which l.all l.i-iterator.rest
