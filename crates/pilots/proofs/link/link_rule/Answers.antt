-- The four words are those of the linked rule.
use Rattle.pilots.proofs.Face.{rule_linked}
use Rattle.pilots.proofs.link.link_rule.Goals as goal

pub returns : goal.returns
returns c =
    rule_linked c.requires.1 c.uses-used.ensures (rw c.uses-used.ensures at c.union_of.ensures)
    (rw c.uses-used.ensures at c.union_of-2.ensures)
    c.head.ensures
    c.positive_body.ensures
    c.union-positive.ensures
    c.negative_body.ensures
    c.union-negative.ensures
    c.without-left.ensures
    c.put_rule.ensures
