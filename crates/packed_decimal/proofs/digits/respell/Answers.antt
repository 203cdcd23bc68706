use Rattle.packed_decimal.proofs.Prelude.{arith, needs}
use Rattle.packed_decimal.proofs.Face.{sum_fits, next_fits, respelling_more, respelling_all}
use Rattle.packed_decimal.proofs.digits.respell.Goals as goal

pub overflow_mul-result : goal.overflow_mul-result
overflow_mul-result c = record { fits = omega (arith, sum_fits c.loop-digit.invariant c.loop-digit-test.true c.requires.0 c.requires.1 c.requires.2) }

pub overflow_add-result : goal.overflow_add-result
overflow_add-result c = record { fits = omega (arith, sum_fits c.loop-digit.invariant c.loop-digit-test.true c.requires.0 c.requires.1 c.requires.2) }

pub overflow_mul-place : goal.overflow_mul-place
overflow_mul-place c = record { fits = omega (arith, next_fits c.loop-digit.invariant c.loop-digit-test.true c.requires.0 c.requires.1 c.requires.2) }

pub loop-digit-preserved : goal.loop-digit-preserved
loop-digit-preserved c = search (respelling_more, needs)

pub returns : goal.returns
returns c = search (respelling_all, needs)
