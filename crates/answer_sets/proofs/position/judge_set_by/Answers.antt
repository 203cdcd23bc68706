-- The third part of the definition: no smaller model of the kept rules.
use Rattle.answer_sets.proofs.Face.{met_judged, refuted_smaller, lent_kept}
use Rattle.answer_sets.proofs.position.judge_set_by.Goals as goal

pub some_smaller_by-smaller-requires : goal.some_smaller_by-smaller-requires
some_smaller_by-smaller-requires g c = record {
  lent = (lent_kept c.args.position c.in-Some.ensures.kept_is c.requires.lent.0, c.requires.lent.1);
  finds = c.requires.finds;
}

pub returns-clause-answers : goal.returns-clause-answers
returns-clause-answers g c = rw c.judged_by.ensures (met_judged c.in-Some.ensures c.some_smaller_by-smaller.ensures.tested.computed)

pub returns-clause-refuted : goal.returns-clause-refuted
returns-clause-refuted g c = rw c.judged_by.ensures (refuted_smaller c.in-Some.ensures.kept_is c.some_smaller_by-smaller.ensures.set)
