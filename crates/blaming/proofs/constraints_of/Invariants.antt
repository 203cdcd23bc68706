-- The loop drops from the word the rules with a head.
use Rattle.blaming.proofs.Prelude.{Sifts, lent, ◌≡◌}
use Rattle.blaming.proofs.constraints_of.Given as goal

abbrev pub invariant-loop-rule : goal.invariant-loop-rule
invariant-loop-rule l = Sifts (λ r. (lent l.fn.rules).head r ≡ 0) l.fn.which l.word l.rule-iterator.rest
