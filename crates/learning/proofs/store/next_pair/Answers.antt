use Rattle.learning.proofs.Prelude.{needs}
use Rattle.learning.proofs.Face.{passing_start, passing_next, news_stopped, news_met, news_none}
use Rattle.learning.proofs.store.next_pair.Goals as goal

pub returns-then-not-are_apart : goal.returns-then-not-are_apart
returns-then-not-are_apart c = search (news_stopped, needs)

pub loop-i-init : goal.loop-i-init
loop-i-init c = passing_start

pub returns-then-is_news : goal.returns-then-is_news
returns-then-is_news c = search (news_met, needs)

pub loop-i-preserved : goal.loop-i-preserved
loop-i-preserved c = search (passing_next, needs)

pub returns : goal.returns
returns c = search (news_none, needs)
