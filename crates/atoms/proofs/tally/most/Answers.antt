use Rattle.std.proofs.lemmas.Iterator.Adapters.{YieldsList-from_rev_slice}
use Rattle.std.proofs.lemmas.Iterator.Consumers.{YieldsList-end, YieldsList-turn}
use Rattle.std.proofs.lemmas.List.{length_push}
use Rattle.atoms.proofs.Prelude.{needs}
use Rattle.atoms.proofs.Face.{subset_refl, subset_trans, most_start, most_turn, most_end}
use Rattle.atoms.proofs.tally.most.Goals as goal

pub loop-place-init : goal.loop-place-init
loop-place-init c = search (subset_refl, most_start, needs)

pub loop-place-preserved : goal.loop-place-preserved
loop-place-preserved c =
    let t = YieldsList-turn (YieldsList-from_rev_slice c.args.places.now (cc)) c.loop-place.yielded _ c.loop-place.yielded_by _ _ c.in-Some.place
    c.in-Some.is c.next.ensures.steps in
    (search (subset_trans, needs), most_turn c.args.places.now _ t (length_push _ _) c.loop-place.invariant.1 c.prefer-best.ensures.is)

pub returns : goal.returns
returns c =
    let t = YieldsList-end (YieldsList-from_rev_slice c.args.places.now (cc)) c.loop-place.yielded _ c.loop-place.yielded_by _ _ c.in-None.is
    c.next.ensures.steps in
    search (most_end, t, needs)
