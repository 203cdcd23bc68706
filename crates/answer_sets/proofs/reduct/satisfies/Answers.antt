-- A failing body, or a head atom that is up.
use Rattle.answer_sets.proofs.Prelude.{needs}
use Rattle.answer_sets.proofs.Face.{satisfies_fails, satisfies_holds}
use Rattle.answer_sets.proofs.reduct.satisfies.Goals as goal

pub returns-then-not-body_holds : goal.returns-then-not-body_holds
returns-then-not-body_holds c = search (satisfies_fails, needs)

pub returns : goal.returns
returns c =
    satisfies_holds _ _ _ c.body_holds.ensures c.if-not-body_holds.false-raw c.head.ensures
    c.are_apart.ensures
