-- The rule has a head, or makes no use, several, or one, of a table that is a parity or not.
use Rattle.parities.proofs.Prelude.{needs}
use Rattle.parities.proofs.Face.{some_head, no_use, several_uses, one_use, use_small}
use Rattle.parities.proofs.told.is_telling.Goals as goal

pub returns-then-head-ne0 : goal.returns-then-head-ne0
returns-then-head-ne0 c = search (some_head, needs)

pub returns-then-used-eq0 : goal.returns-then-used-eq0
returns-then-used-eq0 c = search (no_use, needs)

pub returns-then-not-at_most_one : goal.returns-then-not-at_most_one
returns-then-not-at_most_one c =
    several_uses _ _ c.uses.ensures c.first.ensures c.cut-used.ensures
    (c.at_most_one.ensures.no c.if-not-at_most_one.true)

pub used_table-t-requires : goal.used_table-t-requires
used_table-t-requires c = search (use_small, needs)

pub returns : goal.returns
returns c =
    one_use _ _ c.uses.ensures c.first.ensures c.cut-used.ensures c.head.ensures
    c.if-head-ne0.false
    (c.at_most_one.ensures.yes c.if-not-at_most_one.false) c.lowest.ensures.0
    c.used_table-t.ensures.0
    c.table_inputs.ensures
    c.table_truth.ensures
    c.is_parity.ensures
