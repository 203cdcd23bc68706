-- Each test gives its part of what the memo and the rounds have in common.
use Rattle.answer_sets.proofs.Prelude.{sym, ◌∙◌, needs, ◌⊆◌, decides_subset}
use Rattle.answer_sets.proofs.Face.{lent_part, alike_memo}
use Rattle.answer_sets.proofs.memo.memo_tells.Goals as goal

pub are_untouched-requires : goal.are_untouched-requires
are_untouched-requires c =
    let part : c.read_memo-n.result.left ⊆ c.args.p.left = (decides_subset _ _).yes (sym c.is_subset.ensures ∙ c.if-not-is_subset.false) in
    search (lent_part, part, needs)

pub returns : goal.returns
returns c = search (alike_memo, needs)
