-- Each kind of step tells of what belongs to the list. A step on rules leaves the filter as it is; a list's step narrows it.
use Rattle.propagating.proofs.Prelude.{joinable_some, filtered_narrows, needs}
use Rattle.propagating.proofs.Face.{pilots_long}
use Rattle.propagating.proofs.Propagation.{linked_lent, lists_narrow, rules_narrow, linked_narrow, satisfying_wired, table_narrows, sums_narrow}
use Rattle.propagating.proofs.DecodedSteps.{decoded_step}
use Rattle.propagating.proofs.propagate.take_step.Goals as goal

pub apply_rule-requires : goal.apply_rule-requires
apply_rule-requires c = search (linked_lent c.args.cx.now, (decoded_step _ _ c.decode.ensures).rule, needs)

pub apply_support-requires : goal.apply_support-requires
apply_support-requires c = search (linked_lent c.args.cx.now, (decoded_step _ _ c.decode.ensures).atom, needs)

pub filter_step-requires : goal.filter_step-requires
filter_step-requires c = search (joinable_some, (decoded_step _ _ c.decode.ensures).list, needs)

pub pilot-requires : goal.pilot-requires
pilot-requires c = search ((decoded_step _ _ c.decode.ensures).table, needs)

pub table_step-requires : goal.table_step-requires
table_step-requires c = search ((decoded_step _ _ c.decode.ensures).table, needs)

pub sum_step-requires : goal.sum_step-requires
sum_step-requires c = search (pilots_long, needs)

pub returns-in-Rule : goal.returns-in-Rule
returns-in-Rule c = search (satisfying_wired c.args.cx.now, filtered_narrows, needs)

pub returns-in-Support : goal.returns-in-Support
returns-in-Support c = search (linked_narrow c.args.cx.now, filtered_narrows, needs)

pub returns-in-List : goal.returns-in-List
returns-in-List c = search (lists_narrow c.args.cx.now, needs)

pub returns-in-Founded : goal.returns-in-Founded
returns-in-Founded c = search (rules_narrow c.args.cx.now, filtered_narrows, needs)

pub returns-in-Table : goal.returns-in-Table
returns-in-Table c = search (table_narrows c.args.cx.now, filtered_narrows, (decoded_step _ _ c.decode.ensures).table, needs)

pub returns-in-Sums : goal.returns-in-Sums
returns-in-Sums c = search (sums_narrow c.args.cx.now, filtered_narrows, needs)
