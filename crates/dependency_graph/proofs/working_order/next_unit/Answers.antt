use Rattle.std.proofs.lemmas.Iterator.{first_from_Range}
use Rattle.dependency_graph.proofs.Prelude.{◌≡◌, true, false, needs, ready, units_of}
use Rattle.dependency_graph.proofs.Face.{next_first}
use Rattle.dependency_graph.proofs.working_order.next_unit.Goals as goal

pub returns : goal.returns
unfolding units_of
returns c =
    next_first (units_of c.args.plan) c.args.done _
    (first_from_Range _ _ _ _ (λ u. ready (units_of c.args.plan) c.args.done u ≡ true) (λ u. ready (units_of c.args.plan) c.args.done u ≡ false)
    c.find.ensures.ran (λ u q k. search needs) (λ u q k. search needs))
