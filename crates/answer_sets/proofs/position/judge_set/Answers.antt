-- The third part of the definition: no smaller model of the kept rules.
use Rattle.answer_sets.proofs.Face.{met_judged, refuted_smaller, lent_kept}
use Rattle.answer_sets.proofs.position.judge_set.Goals as goal

pub some_smaller-requires : goal.some_smaller-requires
some_smaller-requires c = (lent_kept c.args.position c.in-Some.ensures.kept_is c.requires.0, c.requires.1)

pub returns-clause-answers : goal.returns-clause-answers
returns-clause-answers c = rw c.judged_by.ensures (met_judged c.in-Some.ensures c.some_smaller.ensures.tested.computed)

pub returns-clause-refuted : goal.returns-clause-refuted
returns-clause-refuted c = rw c.judged_by.ensures (refuted_smaller c.in-Some.ensures.kept_is c.some_smaller.ensures.set)
