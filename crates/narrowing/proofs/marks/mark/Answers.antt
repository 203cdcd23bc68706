use Rattle.narrowing.proofs.Prelude.{◌+◌, ◌<◌, arith, length, needs}
use Rattle.narrowing.proofs.Face.{adding_start, adding_next, word_added, marked_end}
use Rattle.atoms.proofs.EachAtom.{each_of}
use Rattle.narrowing.proofs.marks.mark.Goals as goal

pub loop-atom-init : goal.loop-atom-init
loop-atom-init c = rw (each_of c.into_iter-atom-iterator.ensures.into_iter_gives c.each-atom-items.ensures) adding_start

pub loop-atom-preserved : goal.loop-atom-preserved
loop-atom-preserved c =
    let inside : c.args.base + c.in-Some.atom < length c.loop-atom.table =
    omega (arith, c.in-Some.ensures, c.loop-atom.invariant.done.same_length, c.requires) in
    search (adding_next, word_added, inside, c.in-Some.ensures, needs)

pub returns : goal.returns
returns c = search (marked_end, c.in-None.ensures, needs)
