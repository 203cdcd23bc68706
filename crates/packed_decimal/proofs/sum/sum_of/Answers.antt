-- By what the two words say: one is not measured; or the sum of the numbers, with or without a carry.
use Rattle.packed_decimal.proofs.Prelude.{sym, inl, inr, arith, needs}
use Rattle.packed_decimal.proofs.Face.{unmeasured_says, sum_unmeasured_left, sum_unmeasured_right, left_fits, right_fits, words_plain, words_carry}
use Rattle.packed_decimal.proofs.sum.sum_of.Goals as goal

pub returns-then-a-eq-NOT_MEASURED : goal.returns-then-a-eq-NOT_MEASURED
returns-then-a-eq-NOT_MEASURED c =
    elim c.then-a-eq-NOT_MEASURED.either [
      | inl e ↦ sym (sum_unmeasured_left _ _ (unmeasured_says c.args.a e))
      | inr h ↦ sym (sum_unmeasured_right _ _ (unmeasured_says c.args.b h.1))
    ]

pub overflow_add-total : goal.overflow_add-total
overflow_add-total c =
    let fits = left_fits c.args.a c.args.b c.requires.0 c.requires.1 c.if-a-eq-NOT_MEASURED.false c.if-b-eq-NOT_MEASURED.false in
    let fits' = right_fits c.args.a c.args.b c.requires.0 c.requires.1 c.if-a-eq-NOT_MEASURED.false c.if-b-eq-NOT_MEASURED.false in
    record { fits = omega (arith, c.unpack.ensures, c.unpack-2.ensures) }

pub returns-then-total-ge-MODULUS : goal.returns-then-total-ge-MODULUS
returns-then-total-ge-MODULUS c =
    sym
    (search (words_carry, needs))

pub returns : goal.returns
returns c =
    sym
    (search (words_plain, needs))
