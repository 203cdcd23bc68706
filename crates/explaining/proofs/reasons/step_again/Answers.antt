-- Each kind of step tells of what belongs to the list and heeds the memory.
use Rattle.explaining.proofs.Prelude.{◌<◌, PAIRS, heeds_narrows, pairs_narrow, pair_narrows, pilots_long, needs}
use Rattle.propagating.proofs.Propagation.{linked_lent, lists_narrow, rules_narrow, linked_narrow, satisfying_wired, table_narrows, sums_narrow}
use Rattle.explaining.proofs.reasons.step_again.Goals as goal

pub apply_rule-requires : goal.apply_rule-requires
apply_rule-requires c = search (linked_lent c.args.cx.now, c.args.c.there.rule, needs)

pub apply_support-requires : goal.apply_support-requires
apply_support-requires c = search (linked_lent c.args.cx.now, c.args.c.there.atom, needs)

pub list_again-requires : goal.list_again-requires
list_again-requires c = search (c.args.c.there.list, needs)

pub pilot-requires : goal.pilot-requires
pilot-requires c = search (c.args.c.there.table, needs)

pub table_step-requires : goal.table_step-requires
table_step-requires c = search (c.args.c.there.table, needs)

pub sum_step-requires : goal.sum_step-requires
sum_step-requires c = search (pilots_long, needs)

pub read_pair-requires : goal.read_pair-requires
read_pair-requires c = search (c.args.c.there.pair, needs)

pub returns-in-Rule : goal.returns-in-Rule
returns-in-Rule c = search (heeds_narrows, satisfying_wired c.args.cx.now, needs)

pub returns-in-Support : goal.returns-in-Support
returns-in-Support c = search (heeds_narrows, linked_narrow c.args.cx.now, needs)

pub returns-in-List : goal.returns-in-List
returns-in-List c = search (heeds_narrows, lists_narrow c.args.cx.now, needs)

pub returns-in-Founded : goal.returns-in-Founded
returns-in-Founded c = search (heeds_narrows, rules_narrow c.args.cx.now, needs)

pub returns-in-Table : goal.returns-in-Table
returns-in-Table c = search (heeds_narrows, table_narrows c.args.cx.now, c.args.c.there.table, needs)

pub returns-in-Sums : goal.returns-in-Sums
returns-in-Sums c = search (heeds_narrows, sums_narrow c.args.cx.now, needs)

pub returns-in-Pair : goal.returns-in-Pair
returns-in-Pair c =
    let in_memory : c.in-Pair.i < PAIRS = search (c.args.c.there.pair, needs) in
    search (pairs_narrow, pair_narrows, in_memory, needs)

pub returns-in-Unfounded : goal.returns-in-Unfounded
returns-in-Unfounded c = search (heeds_narrows, rules_narrow c.args.cx.now, needs)
