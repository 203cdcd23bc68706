use Rattle.joining.proofs.Prelude.{◌+◌, ◌<◌, BLOCKS, arith, length, needs}
use Rattle.joining.proofs.Face.{listing_start, listing_next, listing_end}
use Rattle.joining.proofs.sift.sift_list.Goals as goal

pub loop-k-init : goal.loop-k-init
loop-k-init c = listing_start _ _ _ _ _ _ _

pub loop-k-preserved : goal.loop-k-preserved
loop-k-preserved c =
    let few : c.loop-k.k < BLOCKS = omega arith in
    let inside : c.args.at + c.loop-k.k < length c.loop-k.filter = omega (arith, few, c.loop-k.invariant.same_length, c.requires.1) in
    listing_next _ _ _ _ _ _ _ _ _ _ few (omega (arith, inside, c.loop-k.invariant.same_length)) c.loop-k.invariant c.sift_block-found.ensures

pub returns : goal.returns
returns c = search (listing_end, needs)
