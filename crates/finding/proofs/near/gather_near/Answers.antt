-- Those like the place from the bound on are the ones up to the last of them.
use Rattle.finding.proofs.Prelude.{refl}
use Rattle.finding.proofs.Face.{near_node, reaches_near}
use Rattle.finding.proofs.near.gather_near.Goals as goal

pub gather-count-requires : goal.gather-count-requires
gather-count-requires c = (
  near_node c.args.near.front.state c.args.near.bound c.requires.0 c.requires.1
      (rw (c.like_place-t.ensures, c.high_free-high.ensures, c.without-hidden.ensures) at c.onward.ensures) refl,
  c.requires.3,
)

pub returns-clause-reaches : goal.returns-clause-reaches
returns-clause-reaches c =
    reaches_near c.args.near.bound c.requires.0 c.requires.1
    (rw (c.high_free-high.ensures, c.without-hidden.ensures) at c.last_like-last.ensures) c.is_behind.ensures (rw c.if-not-is_behind.false refl)
    (rw (c.onward.ensures, c.like_place-t.ensures, c.high_free-high.ensures, c.without-hidden.ensures) at c.gather-count.ensures.added)
