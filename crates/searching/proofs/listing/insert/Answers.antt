use Rattle.searching.proofs.Prelude.{◌≡◌, arith}
use Rattle.searching.proofs.ListInsertion.{pass_below, pass_above, pass_same, pass_full, pass_end}
use Rattle.searching.proofs.listing.insert.Goals.{then-carried-here-2, else-carried-here-2}
use Rattle.searching.proofs.listing.insert.Goals as goal

pub returns-then-carried-here : goal.returns-then-carried-here
returns-then-carried-here c =
    pass_same c.args.list.now c.args.count c.args.value (omega arith) c.loop-i.list c.loop-i.carried c.loop-i.i c.loop-i.invariant
    c.loop-i-test.true c.requires.0 c.if-carried-here.true

pub loop-i-preserved : goal.loop-i-preserved
loop-i-preserved c =
    elim c.if-carried-here-2.branch [
      | then-carried-here-2 w ↦ rw (w.list-is, w.carried-is)
          (pass_below c.args.list.now c.args.count c.args.value (omega arith) c.loop-i.list c.loop-i.carried c.loop-i.i c.loop-i.invariant
          c.loop-i-test.true w.if-carried-here-2.true)
      | else-carried-here-2 w ↦ rw (w.list-is, w.carried-is)
          (pass_above c.args.list.now c.args.count c.args.value (omega arith) c.loop-i.list c.loop-i.carried c.loop-i.i c.loop-i.invariant
          c.loop-i-test.true c.if-carried-here.false w.if-carried-here-2.false)
    ]

pub returns-then-count-eq-LIST_WORDS : goal.returns-then-count-eq-LIST_WORDS
returns-then-count-eq-LIST_WORDS c =
    let e : c.loop-i.i ≡ c.args.count = omega arith in
    pass_full c.args.list.now c.args.count c.args.value c.requires.1 c.requires.0 c.loop-i.list c.loop-i.carried (rw e at c.loop-i.invariant)
    c.if-count-eq-LIST_WORDS.true

pub returns : goal.returns
returns c =
    let e : c.loop-i.i ≡ c.args.count = omega arith in
    pass_end c.args.list.now c.args.count c.args.value c.requires.1 c.requires.0 c.loop-i.list c.loop-i.carried (rw e at c.loop-i.invariant)
    c.if-count-eq-LIST_WORDS.false
