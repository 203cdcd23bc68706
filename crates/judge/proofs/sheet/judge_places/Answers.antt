use Rattle.judge.proofs.Prelude.{sym, ◌∙◌, arith, needs, not-true}
use Rattle.judge.proofs.Face.{whole_lent, tested_at, places_first, places_all}
use Rattle.judge.proofs.sheet.judge_places.Goals as goal

pub loop-place-init : goal.loop-place-init
loop-place-init c = ((λ q l. absurd (omega arith)), c.blank_memo-memo.ensures.memo _)

pub judge_set-judged-requires : goal.judge_set-judged-requires
judge_set-judged-requires c = search (whole_lent, needs)

pub returns-then-not-judged : goal.returns-then-not-judged
returns-then-not-judged c =
    let told = tested_at c.args.plan _ c.loop-place.place c.judge_set-judged.ensures.answers c.first-whole_program.ensures c.read_word-position.ensures in
    sym (places_first c.args.plan _ _ c.loop-place-test.true c.loop-place.invariant.0 (sym told ∙ not-true _ c.if-not-judged.true))

pub returns : goal.returns
returns c = sym (places_all _ _ (λ q l. c.loop-place.invariant.0 q (omega (arith, c.loop-place-test.false))))
