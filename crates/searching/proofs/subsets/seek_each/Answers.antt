-- An atom that is known to be in all sets is done; of another one it is asked.
use Rattle.searching.proofs.Prelude.{sym, ◌∙◌, narrows_trans, decides_subset, has_atom, taken_lent, taking_end, taking_more, taking_next}
use Rattle.searching.proofs.Face.{asked_found, asked_none}
use Rattle.searching.proofs.subsets.seek_each.Goals as goal

pub loop-i-preserved-then-is_subset : goal.loop-i-preserved-then-is_subset
loop-i-preserved-then-is_subset c =
    let t = c.in-Some.ensures.steps in
    let up = rw c.single.ensures at ((decides_subset c.single.result c.loop-i.t.up).yes (sym c.is_subset.ensures ∙ c.if-is_subset.true)) in
    (c.loop-i.invariant.0, c.loop-i.invariant.1, taking_more c.loop-i.invariant.2 t.lowest t.less (up.each c.in-Some.i (has_atom c.in-Some.i)))

pub ask_without-requires : goal.ask_without-requires
ask_without-requires c = (
  c.requires.0,
  c.loop-i.invariant.1,
  c.in-Some.ensures.steps.few,
)

pub returns-in-Set : goal.returns-in-Set
returns-in-Set c =
    asked_found c.requires.0 c.args.cx.now.numbered c.loop-i.invariant.0 c.requires.2
    (taken_lent c.loop-i.invariant.2.within c.in-Some.ensures.steps.lowest) c.in-Set.ensures.asks

pub loop-i-preserved : goal.loop-i-preserved
loop-i-preserved c =
    let t = c.in-Some.ensures.steps in
    let told = c.in-Known.ensures.asks in (
      narrows_trans c.loop-i.invariant.0 told.0,
      c.ask_without.ensures.remembers,
      taking_next c.loop-i.invariant.2 t.lowest t.less (λ j d. told.0.up_grows.each j d) told.1,
    )

pub returns : goal.returns
returns c =
    rw c.none_smaller.ensures
    (asked_none c.requires.0 c.args.cx.now.numbered c.loop-i.invariant.0 c.ranges.position.fits (taking_end c.loop-i.invariant.2 c.in-None.ensures.steps.0))
