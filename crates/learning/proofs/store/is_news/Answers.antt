-- Too many atoms are missing, or none that are there are decided.
use Rattle.learning.proofs.Prelude.{needs}
use Rattle.learning.proofs.Face.{not_news, is_news}
use Rattle.learning.proofs.store.is_news.Goals as goal

pub returns-then-not-at_most_one : goal.returns-then-not-at_most_one
returns-then-not-at_most_one c = search (not_news, needs)

pub returns : goal.returns
returns c = search (is_news, needs)
