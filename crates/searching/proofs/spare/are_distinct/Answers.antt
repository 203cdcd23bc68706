use Rattle.searching.proofs.Prelude.{ℕ, ◌<◌, arith, get_or-take, length-take, MAX_TABLES}
use Rattle.searching.proofs.Face.{distinct_next}
use Rattle.searching.proofs.TestedPilots.{distinct_end}
use Rattle.searching.proofs.spare.are_distinct.Goals as goal

pub loop-pilot-preserved : goal.loop-pilot-preserved
loop-pilot-preserved c =
    let l : c.loop-pilot.pilot-index < MAX_TABLES = let m = simp (length-take {A = ℕ}) at c.loop-pilot-test.true in omega (arith, m) in
    let e = get_or-take MAX_TABLES c.args.pilots.now c.loop-pilot.pilot-index 0 l in
    distinct_next c.loop-pilot.invariant (rw e at c.are_apart.ensures) c.if-not-are_apart.false (rw e at c.union-all.ensures)

pub returns : goal.returns
returns c e = distinct_end c.loop-pilot.invariant (omega (arith, length-take {A = ℕ}))
