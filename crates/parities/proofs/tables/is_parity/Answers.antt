-- There are too many inputs, or the truth word is one of two words or not.
use Rattle.parities.proofs.Prelude.{refl, needs}
use Rattle.parities.proofs.Face.{rows_fit, too_many, is_odd, may_be_even}
use Rattle.parities.proofs.tables.is_parity.Goals as goal

pub returns-then-n-gt-MAX_INPUTS : goal.returns-then-n-gt-MAX_INPUTS
returns-then-n-gt-MAX_INPUTS c = too_many _ _ (search needs) refl refl c.if-n-gt-MAX_INPUTS.true

pub first-rows-requires : goal.first-rows-requires
first-rows-requires c = search (rows_fit, needs)

pub returns-then-truth-cut : goal.returns-then-truth-cut
returns-then-truth-cut c = search (is_odd, needs)

pub returns : goal.returns
returns c = search (may_be_even, needs)
