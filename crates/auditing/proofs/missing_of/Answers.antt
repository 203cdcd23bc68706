-- One word is gathered, and what is on the sheet is passed over.
use Rattle.auditing.proofs.Prelude.{refl, one_none, one_least}
use Rattle.auditing.proofs.Face.{added_missing}
use Rattle.auditing.proofs.missing_of.Goals as goal

pub returns-then-found-eq0 : goal.returns-then-found-eq0
returns-then-found-eq0 c =
    let found = added_missing c.read_words-count.ensures c.args.plan c.gather_of-found.ensures in
    one_none found refl c.if-found-eq0.true

pub returns : goal.returns
returns c =
    let found = added_missing c.read_words-count.ensures c.args.plan c.gather_of-found.ensures in
    one_least found refl c.if-found-eq0.false
