-- The facts and the kept rules: the parts of the definition before the subset test.
use Rattle.answer_sets.proofs.Prelude.{needs}
use Rattle.answer_sets.proofs.Face.{unmet_facts, unmet_model, met, lent_kept}
use Rattle.answer_sets.proofs.position.kept_where_met.Goals as goal

pub returns-then-not-is_subset : goal.returns-then-not-is_subset
returns-then-not-is_subset c = search (unmet_facts, needs)

pub all_satisfied-requires : goal.all_satisfied-requires
all_satisfied-requires c = lent_kept c.args.position c.kept_rules-kept.ensures c.requires

pub returns-then-not-all_satisfied : goal.returns-then-not-all_satisfied
returns-then-not-all_satisfied c = search (unmet_model, needs)

pub returns : goal.returns
returns c = search (met, needs)
