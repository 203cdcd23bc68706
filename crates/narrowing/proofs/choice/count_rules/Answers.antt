use Rattle.narrowing.proofs.Prelude.{◌≡◌, sym, ◌∙◌, true≢false, taking_more, needs, Stopped}
use Rattle.narrowing.proofs.Face.{stands_no_stop}
use Rattle.narrowing.proofs.choice.count_rules.Goals as goal

pub loop-rule-preserved : goal.loop-rule-preserved
loop-rule-preserved c =
    let goes_on : ¬ (c.standing_of-standing.result ≡ Stopped) = λ e. true≢false (sym (rw e at c.eq.ensures) ∙ c.if-eq.false) in
    search (taking_more, stands_no_stop, goes_on, c.in-Some.ensures, needs)
