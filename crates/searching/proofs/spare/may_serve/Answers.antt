-- Each test says its part.
use Rattle.searching.proofs.Face.{tested_pilots}
use Rattle.searching.proofs.spare.may_serve.Goals as goal

pub returns : goal.returns
returns c e =
    rw c.all_of-x.ensures at
    (tested_pilots {rules = c.args.rules.now} {heads = c.args.heads.now} {pilots = c.args.pilots.now} {unit = c.args.unit} {s = c.args.s}
    c.requires.3 c.all_of-x.ensures
    c.is_subset.ensures c.if-not-is_subset.false
    c.are_apart.ensures c.if-not-are_apart.false
    c.union_of.ensures c.are_apart-2.ensures c.if-not-are_apart-2.false
    (c.are_distinct.ensures c.if-not-are_distinct.false)
    (c.in_no_table.ensures c.if-not-in_no_table.false)
    (c.in_no_rule.ensures e))
