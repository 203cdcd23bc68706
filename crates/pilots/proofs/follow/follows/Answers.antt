-- The one row that is left tells what the table says.
use Rattle.pilots.proofs.Prelude.{sym, ◌∙◌, decides_subset, needs}
use Rattle.pilots.proofs.Face.{follows_nothing, row_true, row_false, follows_true, follows_false}
use Rattle.pilots.proofs.follow.follows.Goals as goal

pub returns-then-pilot-eq0 : goal.returns-then-pilot-eq0
returns-then-pilot-eq0 c = search (follows_nothing, needs)

pub returns-then-is_subset : goal.returns-then-is_subset
returns-then-is_subset c =
    follows_true
    (rw (c.word_at-inputs.ensures, c.word_at-truth.ensures) at
    (row_true _ _ c.outside.ensures c.agreeing_rows-rows.ensures
    ((decides_subset _ _).yes (sym c.is_subset.ensures ∙ c.if-is_subset.true))))
    c.is_subset-then-is_subset.ensures

pub returns : goal.returns
returns c =
    follows_false
    (rw (c.word_at-inputs.ensures, c.word_at-truth.ensures) at
    (row_false _ _ c.outside.ensures c.agreeing_rows-rows.ensures
    ((decides_subset _ _).no (sym c.is_subset.ensures ∙ c.if-is_subset.false))))
    c.are_apart.ensures
