-- The tables are lent, the pilot is one atom, and the truth word is a parity.
use Rattle.parities.proofs.Prelude.{needs}
use Rattle.parities.proofs.Face.{not_lent, not_piloted, piloted_parity}
use Rattle.parities.proofs.tables.is_parity_table.Goals as goal

pub returns-then-rules-lt-FIRST_RULE : goal.returns-then-rules-lt-FIRST_RULE
returns-then-rules-lt-FIRST_RULE c = search (not_lent, needs)

pub returns-then-count-ne1 : goal.returns-then-count-ne1
returns-then-count-ne1 c = search (not_piloted, needs)

pub returns : goal.returns
returns c = search (piloted_parity, needs)
