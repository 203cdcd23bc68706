-- The word is cut to the numbers below the number of rules.
use Rattle.answer_sets.proofs.Face.{numbered_cut}
use Rattle.answer_sets.proofs.position.lent_numbers.Goals as goal

pub returns : goal.returns
returns c =
    numbered_cut c.args.rules.now c.args.n c.args.which c.rule_count.ensures c.min-there.ensures
    c.min.ensures c.first.ensures c.cut.ensures
