-- The batch of one.
use Rattle.finding.proofs.Prelude.{refl}
use Rattle.finding.proofs.AddedWords.{added_behind, one_none, one_least}
use Rattle.finding.proofs.next.next.Goals as goal

pub returns-then-count-eq0 : goal.returns-then-count-eq0
returns-then-count-eq0 c = one_none (added_behind c.gather_all-count.ensures) refl c.if-count-eq0.true

pub returns : goal.returns
returns c = one_least (added_behind c.gather_all-count.ensures) refl c.if-count-eq0.false
