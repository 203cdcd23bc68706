use Rattle.pilots.proofs.Prelude.{◌≡◌, arith, taken_lent, needs}
use Rattle.pilots.proofs.Face.{linking_start, linking_next, linking_end}
use Rattle.pilots.proofs.link.link_all.Goals as goal

pub loop-rule-init : goal.loop-rule-init
loop-rule-init c =
    let all : c.into_iter-rule-iterator.result.rest ≡ c.args.which = cc in
    rw all linking_start

pub link_rule-requires : goal.link_rule-requires
link_rule-requires c =
    let h = taken_lent c.loop-rule.invariant.taking.within c.in-Some.ensures.steps.lowest in
    (c.requires.0.each _ h, omega (arith, c.requires.1.each _ h, c.loop-rule.invariant.same_length), c.requires.2)

pub loop-rule-preserved : goal.loop-rule-preserved
loop-rule-preserved c = search (linking_next, c.in-Some.ensures, needs)

pub returns : goal.returns
returns c = search (linking_end, c.in-None.ensures, needs)
