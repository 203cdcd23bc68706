-- From the root, where every answer set is left: those near the place, then all others.
use Rattle.finding.proofs.Prelude.{arith}
use Rattle.finding.proofs.Face.{hinted_place, gather_root, between_rest}
use Rattle.finding.proofs.batch.gather_all.Goals as goal

pub gather-requires : goal.gather-requires
gather-requires c = (
  record {
    stands = c.gather_nearest-near.ensures.stands;
    hinted = hinted_place (rw c.without.ensures at c.dark_of-dark.ensures) c.gather_nearest-near.ensures.reaches.further c.place_in.ensures;
  },
  omega (arith, c.gather_nearest-near.ensures.reaches.added.room, c.gather_nearest-near.ensures.reaches.added.long),
)

pub returns : goal.returns
returns c =
    gather_root c.args.rules.now (λ i. (c.type_inv.rules i).fits) c.ranges.facts.fits c.ranges.which.fits
    c.unit_of-unit.ensures c.root_of-front.ensures.stands c.root_of-front.ensures.rooted
    (between_rest c.gather_nearest-near.ensures.reaches.further c.gather_nearest-near.ensures.reaches.added c.gather.ensures.added)
