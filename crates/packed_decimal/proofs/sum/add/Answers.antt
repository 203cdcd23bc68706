-- The first of the two that is bad, or their sum.
use Rattle.packed_decimal.proofs.Prelude.{sym, ap, ◌∙◌, Ok}
use Rattle.packed_decimal.proofs.Face.{pair_good, added_refused, added_is, summed}
use Rattle.std.proofs.lemmas.Result.{err_from_is_err_and}
use Rattle.packed_decimal.proofs.sum.add.Goals as goal

pub returns-in_err-refuse_bad : goal.returns-in_err-refuse_bad
returns-in_err-refuse_bad c =
    let refused = err_from_is_err_and c.from_residual.result c.from_residual.ensures.1 in
    rw (refused.1, refused.2) (summed _ _ (added_refused c.args.a c.args.b _ c.in_err-refuse_bad.ensures))

pub sum_of-requires : goal.sum_of-requires
sum_of-requires c = pair_good c.args.a c.args.b _ c.in_ok-refuse_bad.ensures

pub returns : goal.returns
returns c =
    let good = pair_good c.args.a c.args.b _ c.in_ok-refuse_bad.ensures in
    summed _ _ (ap Ok c.sum_of.ensures ∙ sym (added_is c.args.a c.args.b good.0 good.1))
