-- No atom, several, or one.
use Rattle.states.proofs.Prelude.{needs}
use Rattle.states.proofs.Face.{none_goes, last_goes, several}
use Rattle.states.proofs.one_atom.one_goes.Goals as goal

pub returns-then-word-eq0 : goal.returns-then-word-eq0
returns-then-word-eq0 c = search (none_goes, needs)

pub returns-then-not-at_most_one : goal.returns-then-not-at_most_one
returns-then-not-at_most_one c = search (several, needs)

pub returns : goal.returns
returns c = last_goes c.args.phase c.if-word-eq0.false (c.at_most_one.ensures.yes c.if-not-at_most_one.false) c.decide_word.ensures
