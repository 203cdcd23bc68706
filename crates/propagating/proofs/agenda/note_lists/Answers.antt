use Rattle.propagating.proofs.Prelude.{needs, ◌<◌, arith, taken_lt, MAX_UNITS, adding_start, adding_next, adding_end}
use Rattle.atoms.proofs.EachAtom.{each_of}
use Rattle.propagating.proofs.Face.{list_added}
use Rattle.propagating.proofs.agenda.note_lists.Goals as goal

pub loop-v-init : goal.loop-v-init
loop-v-init c = rw (each_of c.into_iter-v-iterator.ensures.into_iter_gives c.each-v-items.ensures) adding_start

pub bounds-heads-v : goal.bounds-heads-v
bounds-heads-v c =
    let inside : c.in-Some.v < MAX_UNITS = taken_lt MAX_UNITS c.requires.1 c.loop-v.invariant.within c.in-Some.ensures.steps.lowest in
    omega (arith, inside, c.requires.0)

pub loop-v-preserved : goal.loop-v-preserved
loop-v-preserved c = search (adding_next, list_added, c.in-Some.ensures, needs)

pub returns : goal.returns
returns c = adding_end c.loop-v.invariant c.in-None.ensures.steps.0
