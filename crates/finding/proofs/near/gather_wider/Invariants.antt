-- From place to place, each further than the one before; the width grows.
use Rattle.finding.proofs.Prelude.{◌-◌, ◌≤◌, Standing, Reaches}
use Rattle.finding.proofs.near.gather_wider.Given as goal

abbrev pub invariant-loop-width : goal.invariant-loop-width
invariant-loop-width l = record {
  reaches : Reaches l.rules l.desk l.query.unit l.query.facts l.query.from l.skip l.near.front.state l.initial.out 0 l.out l.reached;
  stands : Standing l.rules l.desk l.memory l.query.unit l.query.facts l.near.front.state;
  some : 1 ≤ l.width;
  most : l.width ≤ 128;
}

abbrev pub decreases-loop-width : goal.decreases-loop-width
decreases-loop-width l = 128 - l.width
