use Rattle.dependency_graph.proofs.Prelude.{ap, ◌∙◌, ℕ, needs, ◌∪◌}
use Rattle.dependency_graph.proofs.Face.{filling_start, filling_more, filling_end}
use Rattle.dependency_graph.proofs.head_atoms.fill_unions.Goals as goal

pub loop-u-init : goal.loop-u-init
loop-u-init c = search (filling_start, needs)

pub loop-u-preserved : goal.loop-u-preserved
loop-u-preserved c =
    filling_more c.loop-u.invariant c.loop-u-test.true
    (c.union.ensures ∙ ap (λ (w : ℕ). c.args.given ∪ w) c.union_of.ensures)

pub returns : goal.returns
returns c = search (filling_end, needs)
