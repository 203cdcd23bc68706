-- The position's own entry agrees: it has what all have, and some has what it has.
use Rattle.joining.proofs.Prelude.{sym, subst, ◌∙◌, Narrows, Picked, needs}
use Rattle.joining.proofs.Face.{list_refined, list_clash, list_narrows}
use Rattle.joining.proofs.sift.join_step.Goals as goal

pub returns-then-not-is_subset : goal.returns-then-not-is_subset
returns-then-not-is_subset c = record {
  narrows = subst (Narrows (Picked c.args.words.now c.args.base c.args.heads c.args.filter.now c.args.at) c.args.s) (sym c.clash.ensures)
      (list_clash _ _ _ _ _ _ _ _ _ _ c.cut-up.ensures c.union.ensures c.sift_list-found.ensures
      (sym c.is_subset.ensures ∙ c.if-not-is_subset.true));
  refined = list_refined _ _ _ _ _ _ _ _ _ _ c.cut-up.ensures c.union.ensures c.sift_list-found.ensures;
}

pub returns : goal.returns
returns c = search (list_narrows, list_refined, needs)
