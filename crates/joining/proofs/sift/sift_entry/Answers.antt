-- An entry that does not agree leaves.
use Rattle.joining.proofs.Prelude.{◌∙◌}
use Rattle.joining.proofs.Face.{entry_leaves, entry_stays}
use Rattle.joining.proofs.sift.sift_entry.Goals as goal

pub returns-then-cut-up : goal.returns-then-cut-up
returns-then-cut-up c =
    entry_leaves c.args.up c.args.decided c.args.entry c.args.i _ c.args.found
    (λ e. c.if-cut-up.true (c.cut.ensures ∙ e)) c.drop.ensures

pub returns : goal.returns
returns c = entry_stays c.args.up c.args.decided c.args.entry c.args.i _ _ c.args.found c.cut-2.ensures c.union.ensures
