-- A full position is met where it satisfies the rules.
use Rattle.searching.proofs.Prelude.{◌<◌, ◌^◌, arith, ATOMS, overlap_nogood}
use Rattle.searching.proofs.Face.{settled_one, settled_none}
use Rattle.searching.proofs.seek.settle.Goals as goal

pub returns-then-all_satisfied : goal.returns-then-all_satisfied
returns-then-all_satisfied c =
    let word : c.args.node.front.state.up < 2 ^ ATOMS = omega arith in
    rw c.found_of.ensures (record {
      witnessed = settled_one c.requires c.args.cx.now.numbered word c.all_satisfied.ensures c.if-all_satisfied.true;
      nogood = overlap_nogood c.everything.ensures.overlaps;
    })

pub returns : goal.returns
returns c =
    let word : c.args.node.front.state.up < 2 ^ ATOMS = omega arith in
    rw c.found_of-2.ensures (record {
      witnessed = settled_none c.requires c.args.cx.now.numbered word c.all_satisfied.ensures c.if-all_satisfied.false;
      nogood = overlap_nogood c.everything-2.ensures.overlaps;
    })
