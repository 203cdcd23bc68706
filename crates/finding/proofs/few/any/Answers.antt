-- Nothing is asked of the answer set.
use Rattle.finding.proofs.Face.{any_asked}
use Rattle.finding.proofs.few.any.Goals as goal

pub returns : goal.returns
returns c =
    any_asked c.args.rules.now (λ i. (c.type_inv.rules i).fits) c.ranges.facts.fits c.ranges.which.fits
    c.unit_of-unit.ensures c.root_of-root.ensures.stands c.root_of-root.ensures.rooted c.ask.ensures.witnessed
