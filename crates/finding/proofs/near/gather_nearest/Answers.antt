-- The place completes the state, or nothing is put.
use Rattle.finding.proofs.Prelude.{arith, refl}
use Rattle.finding.proofs.Face.{place_at_lem}
use Rattle.finding.proofs.near.gather_nearest.Goals as goal

pub gather_wider-requires : goal.gather_wider-requires
gather_wider-requires c = (
  c.requires,
  place_at_lem (rw c.without.ensures at c.dark_of-dark.ensures) refl c.in-Some.ensures,
  omega (arith, c.lowest.ensures.1),
)
