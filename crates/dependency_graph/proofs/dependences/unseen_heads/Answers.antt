-- All rules without those seen, and their heads.
use Rattle.dependency_graph.proofs.Prelude.{units_of, seen, unseen_heads}
use Rattle.dependency_graph.proofs.dependences.unseen_heads.Goals as goal

pub returns : goal.returns
unfolding unseen_heads seen units_of
returns c =
    rw (c.without.ensures, c.first.ensures, c.union-seen.ensures, c.union_of-beside.ensures)
    at c.rule_heads.ensures
