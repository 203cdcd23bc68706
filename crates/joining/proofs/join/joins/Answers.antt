use Rattle.joining.proofs.Prelude.{◌∙◌, arith, needs, taken_lent, taking_more}
use Rattle.joining.proofs.Face.{joins_not, joins_all, listed_part, listed_said, count_there, heads_there, list_there, unit_taken}
use Rattle.joining.proofs.join.joins.Goals as goal

pub bounds-counts-v : goal.bounds-counts-v
bounds-counts-v c = count_there c.requires c.loop-v.invariant.within c.in-Some.ensures.steps.lowest

pub overflow_add-list : goal.overflow_add-list
overflow_add-list c = omega (arith, list_there c.requires c.loop-v.invariant.within c.in-Some.ensures.steps.lowest)

pub slice_bounds-list-end : goal.slice_bounds-list-end
slice_bounds-list-end c = omega (arith, list_there c.requires c.loop-v.invariant.within c.in-Some.ensures.steps.lowest)

pub bounds-heads-v : goal.bounds-heads-v
bounds-heads-v c = heads_there c.requires c.loop-v.invariant.within c.in-Some.ensures.steps.lowest

pub returns-then-not-contains : goal.returns-then-not-contains
returns-then-not-contains c =
    let low = c.in-Some.ensures.steps.lowest in
    let part = c.contains.ensures ∙ listed_part _ _ _ _ _ (omega arith) (list_there c.requires c.loop-v.invariant.within low) in
    joins_not _ _ _ _ _ c.cut.ensures part _ (unit_taken c.requires c.loop-v.invariant.within low) (taken_lent c.loop-v.invariant.within low)
    c.if-not-contains.true

pub loop-v-preserved : goal.loop-v-preserved
loop-v-preserved c =
    let t = c.in-Some.ensures.steps in
    let part = c.contains.ensures ∙ listed_part _ _ _ _ _ (omega arith) (list_there c.requires c.loop-v.invariant.within t.lowest) in
    taking_more c.loop-v.invariant t.lowest t.less (listed_said _ _ _ _ _ c.cut.ensures part c.if-not-contains.false)

pub returns : goal.returns
returns c = search (joins_all, c.in-None.ensures, needs)
