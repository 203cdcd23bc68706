use Rattle.finding.proofs.Prelude.{arith}
use Rattle.finding.proofs.Face.{reaches_more}
use Rattle.finding.proofs.near.gather_wider.Goals as goal

pub loop-width-preserved : goal.loop-width-preserved
loop-width-preserved c = record {
  reaches = reaches_more c.loop-width.invariant.reaches c.gather_near-reached.ensures.reaches;
  stands = c.gather_near-reached.ensures.stands;
  some = omega arith;
  most = omega arith;
}
