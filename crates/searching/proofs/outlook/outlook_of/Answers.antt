-- An overlap; nothing undecided; or what the choice says.
use Rattle.searching.proofs.Prelude.{sym, ◌∙◌, inl, inr, decides_apart}
use Rattle.propagating.proofs.Propagation.{linked_lent}
use Rattle.searching.proofs.outlook.outlook_of.Goals as goal

pub returns-then-not-are_apart : goal.returns-then-not-are_apart
returns-then-not-are_apart c = inl (record { overlap = (decides_apart _ _).no (sym c.are_apart.ensures ∙ c.if-not-are_apart.true) })

pub returns-then-free-eq0 : goal.returns-then-free-eq0
returns-then-free-eq0 c = (
  (decides_apart _ _).yes (sym c.are_apart.ensures ∙ c.if-not-are_apart.false),
  sym c.undecided-free.ensures ∙ c.if-free-eq0.true,
)

pub pick-choice-requires : goal.pick-choice-requires
pick-choice-requires c = (c.args.cx.now.searchable.rules_lent, linked_lent c.args.cx.now, c.requires, c.if-free-eq0.false)

pub returns-in-Stop : goal.returns-in-Stop
returns-in-Stop c =
    let told = rw c.in-Stop.is at c.pick-choice.ensures in
    inr (record { rule = c.in-Stop.field-0; in_word = told.0; at_stop = told.1 })
