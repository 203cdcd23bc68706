-- All rules of the record, whose words are lent where they stand: the constraints among them, and the pass.
use Rattle.blaming.proofs.Prelude.{needs}
use Rattle.judge.proofs.Settled.{whole_lent}
use Rattle.blaming.proofs.Programs.{few_asked}
use Rattle.blaming.proofs.Blames.{few_found}
use Rattle.blaming.proofs.held_of.Goals as goal

pub constraints_of-constraints-requires : goal.constraints_of-constraints-requires
constraints_of-constraints-requires c = search (whole_lent, needs)

pub few_constraints-requires : goal.few_constraints-requires
few_constraints-requires c =
    few_asked c.args.plan c.first-all.ensures c.constraints_of-constraints.ensures c.without-headed.ensures
    (whole_lent c.args.plan _ c.requires.0 (search needs) c.first-all.ensures)
    c.requires.1

pub returns : goal.returns
returns c =
    few_found c.args.plan c.requires.0 c.first-all.ensures c.constraints_of-constraints.ensures
    c.without-headed.ensures
    c.few_constraints.ensures
