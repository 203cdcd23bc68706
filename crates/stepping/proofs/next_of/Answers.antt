-- All rules of the record, whose words are lent where they stand.
use Rattle.stepping.proofs.Prelude.{subst, ℕ, AnswerSet, lent, LeastOf, Behind, whole_lent, needs}
use Rattle.stepping.proofs.next_of.Goals as goal

pub next-requires : goal.next-requires
next-requires c = search (whole_lent, needs)

pub returns : goal.returns
returns c =
    subst (λ (w : ℕ). LeastOf (λ M. AnswerSet (lent c.args.plan.rules) w c.args.plan.once.given.word M × Behind c.args.from M) c.next.result) c.first.ensures
    c.next.ensures
