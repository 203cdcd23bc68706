-- By what the two words say: one is not measured; or the words stand as the numbers do.
use Rattle.packed_decimal.proofs.Prelude.{sym, inl, inr, needs}
use Rattle.packed_decimal.proofs.Face.{unmeasured_says, measured_word, order_unmeasured_left, order_unmeasured_right, words_compare}
use Rattle.packed_decimal.proofs.limit.order_of.Goals as goal

pub returns-then-word : goal.returns-then-word
returns-then-word c =
    elim c.then-word.either [
      | inl e ↦ sym (order_unmeasured_left _ _ (unmeasured_says c.args.word e))
      | inr h ↦ sym (order_unmeasured_right _ _ (unmeasured_says c.args.limit h.1))
    ]

pub returns : goal.returns
returns c = sym (search (words_compare, measured_word, needs))
