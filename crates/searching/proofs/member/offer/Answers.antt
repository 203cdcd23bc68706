-- The position's cut is added where the position belongs to the list.
use Rattle.searching.proofs.Prelude.{not-true, not-false, overlap_nogood}
use Rattle.searching.proofs.Face.{offer_none, offer_one}
use Rattle.searching.proofs.member.offer.Goals as goal

pub returns-then-not-judged : goal.returns-then-not-judged
returns-then-not-judged c =
    let told =
    offer_none c.args.list.now c.args.node.count c.args.node.shown c.args.node.front.state.up c.requires.0
    (rw (not-true _ c.if-not-judged.true) at c.is_wired-judged.ensures.decides)
    c.found_of.ensures c.reject-nogood.ensures.remembers c.reject-nogood.ensures.nogood in
    record { memo = c.is_wired-judged.ensures.memo; gathered = told.0; witnessed = told.1.0; remembers = told.1.1.0; nogood = told.1.1.1 }

pub returns : goal.returns
returns c =
    let told =
    offer_one c.args.list.now c.args.node.count c.args.node.shown c.args.node.front.state.up c.insert-after.new.list c.requires.0
    (c.is_wired-judged.ensures.decides.yes (not-false _ c.if-not-judged.false))
    c.cut.ensures c.insert-after.ensures c.found_of-2.ensures c.requires.1 (overlap_nogood c.everything.ensures.overlaps) in
    record { memo = c.is_wired-judged.ensures.memo; gathered = told.0; witnessed = told.1.0; remembers = told.1.1.0; nogood = told.1.1.1 }
