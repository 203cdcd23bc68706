-- By the cases of the word, of what was found, and of the two words.
use Rattle.packed_decimal.proofs.Prelude.{sym, ap, ◌∙◌, subst, arith, needs, says, MeasuredFound, larger, Option, Placed}
use Rattle.packed_decimal.proofs.Face.{measured_word, larger_unmeasured, larger_first, larger_more, larger_same}
use Rattle.packed_decimal.proofs.largest.larger.Goals as goal

pub returns-then-word-eq-NOT_MEASURED : goal.returns-then-word-eq-NOT_MEASURED
returns-then-word-eq-NOT_MEASURED c = search (larger_unmeasured, needs)

pub returns-in_default : goal.returns-in_default
returns-in_default c =
    sym (larger_first c.args.word c.args.place c.if-word-eq-NOT_MEASURED.false)
    ∙ ap (λ (f : Option Placed). larger f (says c.args.word) c.args.word c.args.place) (sym c.in_default.is)

pub returns-then-best-word : goal.returns-then-best-word
returns-then-best-word c =
    sym
    (larger_more c.in-Some.best c.args.word c.args.place (subst MeasuredFound c.in-Some.is c.requires.0)
    (measured_word _ c.if-word-eq-NOT_MEASURED.false (omega arith) c.requires.1)
    c.if-word-eq-NOT_MEASURED.false
    c.if-best-word.true)
    ∙ ap (λ (f : Option Placed). larger f (says c.args.word) c.args.word c.args.place) (sym c.in-Some.is)

pub returns : goal.returns
returns c =
    sym
    (larger_same c.in-Some.best c.args.word c.args.place (subst MeasuredFound c.in-Some.is c.requires.0)
    (measured_word _ c.if-word-eq-NOT_MEASURED.false (omega arith) c.requires.1)
    c.if-word-eq-NOT_MEASURED.false
    c.if-best-word.false)
    ∙ ap (λ (f : Option Placed). larger f (says c.args.word) c.args.word c.args.place) (sym c.in-Some.is)
