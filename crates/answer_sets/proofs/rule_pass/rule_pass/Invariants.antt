-- The loop carries what the turns so far leave, in three words.
use Rattle.answer_sets.proofs.Prelude.{Carrying, lent, Sifted}
use Rattle.answer_sets.proofs.rule_pass.rule_pass.Given as goal

abbrev pub invariant-loop-rule : goal.invariant-loop-rule
invariant-loop-rule l =
    Carrying l.fn.which l.rule-iterator.rest
    (Sifted (lent l.fn.rules) l.fn.which l.fn.s l.fn.which (record { state = record { up = l.up; dropped = l.dropped }; left = l.left }))
