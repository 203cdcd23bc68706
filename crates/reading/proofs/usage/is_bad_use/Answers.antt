-- `is_bad_use` meets its contract, test by test; a repeat is the use's bit in the word of its rule.
use Rattle.reading.proofs.Prelude.{le-leb, lt-leb, lt-ltb, le-ltb, bad_use, needs}
use Rattle.reading.proofs.Face.{has_by_subset}
use Rattle.reading.proofs.usage.is_bad_use.Goals as goal

pub returns-then-read-user : goal.returns-then-read-user
unfolding bad_use
returns-then-read-user c = search (le-leb, needs)

pub returns-then-read-used : goal.returns-then-read-used
unfolding bad_use
returns-then-read-used c = search (lt-leb, le-leb, needs)

pub returns-then-sign-gt-MUST_BE_FALSE : goal.returns-then-sign-gt-MUST_BE_FALSE
unfolding bad_use
returns-then-sign-gt-MUST_BE_FALSE c = search (lt-leb, lt-ltb, needs)

pub returns : goal.returns
unfolding bad_use
returns c = search (lt-leb, le-ltb, has_by_subset, needs)
