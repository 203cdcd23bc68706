use Rattle.contact_tables.proofs.Prelude.{◌≡◌, arith}
use Rattle.contact_tables.proofs.InputWalks.{walk_stops}
use Rattle.contact_tables.proofs.ToldInputs.{telling_start, telling_next, told_up, told_dropped}
use Rattle.contact_tables.proofs.rows.told_inputs.Goals as goal

pub loop-k-init : goal.loop-k-init
loop-k-init c =
    let all : c.into_iter-k-iterator.result.iter.iter.rest ≡ c.args.inputs = cc in
    let bits : c.into_iter-k-iterator.result.iter.n ≡ 6 = cc in
    let none : c.into_iter-k-iterator.result.count ≡ 0 = cc in
    rw (all, bits, none) (omega arith, telling_start _ _)

pub loop-k-preserved : goal.loop-k-preserved
loop-k-preserved c =
    let t = c.in-Some.ensures.steps in
    let here = rw t.1 at c.column-with.ensures in
    rw t.2 (
      omega arith,
      telling_next c.ranges.rows.fits c.loop-k.invariant.1 t.0.0.lowest (omega arith) here c.is_subset.ensures c.single_if.ensures
          c.union-up.ensures c.are_apart.ensures c.single_if-in-loop-k.ensures c.union-dropped.ensures t.0.0.less,
    )

pub returns-clause-up : goal.returns-clause-up
returns-clause-up c = told_up c.loop-k.invariant.1 (walk_stops c.in-None.ensures.steps.0 c.loop-k.invariant.0)

pub returns-clause-dropped : goal.returns-clause-dropped
returns-clause-dropped c = told_dropped c.loop-k.invariant.1 (walk_stops c.in-None.ensures.steps.0 c.loop-k.invariant.0)
