use Rattle.searching.proofs.Prelude.{taken_within, union_fits, MAX_TABLES}
use Rattle.searching.proofs.spare.worth_all.Goals as goal

pub loop-rule-preserved : goal.loop-rule-preserved
loop-rule-preserved c =
    let t = c.in-Some.ensures.steps in (
      taken_within c.loop-rule.invariant.0 t.lowest t.less,
      rw c.union-tables.ensures (union_fits _ _ MAX_TABLES c.loop-rule.invariant.1 c.worth_of.ensures),
    )
