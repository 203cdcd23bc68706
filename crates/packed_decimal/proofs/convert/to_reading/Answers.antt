-- By the cases of what is to be said: not measured, a number above 9999, any other.
use Rattle.packed_decimal.proofs.Prelude.{sym, ap, ◌∙◌, reading_of, Ok}
use Rattle.packed_decimal.proofs.Face.{reading_large, reading_word, reading_unmeasured, repacked}
use Rattle.packed_decimal.proofs.convert.to_reading.Goals as goal

pub returns-in_default : goal.returns-in_default
returns-in_default c =
    repacked _
    (sym reading_unmeasured ∙ ap reading_of (sym c.in_default.is))

pub returns-then-x-ge-MODULUS : goal.returns-then-x-ge-MODULUS
returns-then-x-ge-MODULUS c =
    repacked _
    (sym (reading_large _ c.if-x-ge-MODULUS.true) ∙ ap reading_of (sym c.in-Some.is))

pub returns : goal.returns
returns c =
    repacked _
    (ap Ok c.pack.ensures ∙ sym (reading_word _ c.if-x-ge-MODULUS.false) ∙ ap reading_of (sym c.in-Some.is))
