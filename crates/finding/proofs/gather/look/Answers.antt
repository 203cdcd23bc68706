-- None there is behind the place; one is known; or it is asked.
use Rattle.finding.proofs.Prelude.{needs}
use Rattle.finding.proofs.Face.{looked_passed, looked_known, looked_asked}
use Rattle.finding.proofs.gather.look.Goals as goal

pub returns-then-is_passed-clause-looked : goal.returns-then-is_passed-clause-looked
returns-then-is_passed-clause-looked c =
    looked_passed c.requires.stands (rw c.without.ensures at c.dark_of-dark.ensures) (c.is_passed.ensures c.if-is_passed.true)

pub returns-in-Some : goal.returns-in-Some
returns-in-Some c = search (looked_known, needs)

pub returns-clause-looked : goal.returns-clause-looked
returns-clause-looked c = search (looked_asked, needs)
