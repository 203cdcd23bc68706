-- The rules with a head cut to those in several units.
use Rattle.dependency_graph.proofs.Prelude.{headed_rule_in_several}
use Rattle.dependency_graph.proofs.placement.headed_rule_in_several.Goals as goal

pub returns : goal.returns
unfolding headed_rule_in_several
returns c = rw (c.headed_rules.ensures, c.repeated_rules.ensures) at c.cut.ensures
