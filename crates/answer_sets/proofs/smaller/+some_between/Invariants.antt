-- The measure is the count of undecided atoms.
use Rattle.answer_sets.proofs.Prelude.{ones, undecided}
use Rattle.answer_sets.proofs.smaller.+some_between.Given as goal

abbrev pub decreases-some_between : goal.decreases-some_between
decreases-some_between l = ones (undecided l.s.up l.s.dropped)
