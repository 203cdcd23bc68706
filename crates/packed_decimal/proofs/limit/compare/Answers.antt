-- The first of the two that is bad, or how they stand to each other.
use Rattle.packed_decimal.proofs.Prelude.{sym, ap, ◌∙◌, Ok}
use Rattle.packed_decimal.proofs.Face.{pair_good, compared_refused, compared_is, held}
use Rattle.std.proofs.lemmas.Result.{err_from_is_err_and}
use Rattle.packed_decimal.proofs.limit.compare.Goals as goal

pub returns-in_err-refuse_bad : goal.returns-in_err-refuse_bad
returns-in_err-refuse_bad c =
    let refused = err_from_is_err_and c.from_residual.result c.from_residual.ensures.1 in
    rw (refused.1, refused.2) (held _ _ (compared_refused c.args.word c.args.limit _ c.in_err-refuse_bad.ensures))

pub order_of-requires : goal.order_of-requires
order_of-requires c = pair_good c.args.word c.args.limit _ c.in_ok-refuse_bad.ensures

pub returns : goal.returns
returns c =
    let good = pair_good c.args.word c.args.limit _ c.in_ok-refuse_bad.ensures in
    held _ _ (ap Ok c.order_of.ensures ∙ sym (compared_is c.args.word c.args.limit good.0 good.1))
