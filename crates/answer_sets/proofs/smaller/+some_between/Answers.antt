-- Each return says of the completions what its step of the subset test shows.
use Rattle.answer_sets.proofs.Prelude.{sym, ap, not, ◌∙◌, true, false, needs, Has, decides_apart, undecided, decided_falls}
use Rattle.answer_sets.proofs.Face.{lent_part, confines_more, confines_branch, between_clash, between_model, between_stuck, lasts_trans}
use Rattle.answer_sets.proofs.Face.{tries_told, tries_spent, tries_yes, tries_no}
use Rattle.answer_sets.proofs.smaller.+some_between.Goals as goal

-- the word's two sides are not apart
pub returns-then-not-are_apart : goal.returns-then-not-are_apart
returns-then-not-are_apart t c = rw c.none_smaller.ensures (tries_told (between_clash c.are_apart.ensures (ap not c.if-not-are_apart.true)))

-- what is up satisfies all rules
pub returns-in_default : goal.returns-in_default
returns-in_default t c =
    let apart_up = (decides_apart c.args.s.up c.args.s.dropped).yes (sym c.are_apart.ensures ∙ c.if-not-are_apart.false) in
    tries_told (between_model {t = c.args.s} (search needs) c.requires.1 apart_up c.if-s-position.false c.in_default.ensures)

-- a rule that is not satisfied leaves nothing to try
pub returns-then-choice-eq0 : goal.returns-then-choice-eq0
returns-then-choice-eq0 t c =
    rw c.none_smaller-then-choice-eq0.ensures
    (tries_told
    (between_stuck c.undecided-free.ensures c.candidates-choice.ensures c.if-choice-eq0.true c.in-Some.ensures))

pub some_between-raised-requires : goal.some_between-raised-requires
some_between-raised-requires t c =
    let undecided_atom : Has (undecided c.args.s.up c.args.s.dropped) c.lowest-atom.result =
    rw c.undecided-free.ensures at (c.tried_next-tried.ensures.within.each c.lowest-atom.result c.lowest-atom.ensures.0.here) in
    let e = c.decide.ensures in (
      rw c.decreases at (decided_falls c.args.s true undecided_atom e c.rounds-up.ensures.narrows),
      (
        lent_part c.requires.0 c.rounds-up.ensures.part,
        confines_more (confines_branch c.args.s c.lowest-atom.result true c.requires.1 e) c.rounds-up.ensures.narrows.dropped_grows,
      ),
    )

pub returns-then-raised : goal.returns-then-raised
returns-then-raised t c =
    tries_yes c.lowest-atom.result c.spend.ensures c.decide.ensures c.rounds-up.ensures c.some_between-raised.ensures c.if-raised.true

pub returns-then-raised-eq0 : goal.returns-then-raised-eq0
returns-then-raised-eq0 t c = tries_spent (lasts_trans c.spend.ensures c.some_between-raised.ensures.lasts) c.if-raised-eq0.true

pub some_between-requires : goal.some_between-requires
some_between-requires t c =
    let undecided_atom : Has (undecided c.args.s.up c.args.s.dropped) c.lowest-atom.result =
    rw c.undecided-free.ensures at (c.tried_next-tried.ensures.within.each c.lowest-atom.result c.lowest-atom.ensures.0.here) in
    let e = c.decide-2.ensures in (
      rw c.decreases at (decided_falls c.args.s false undecided_atom e c.rounds-down.ensures.narrows),
      (
        lent_part c.requires.0 c.rounds-down.ensures.part,
        confines_more (confines_branch c.args.s c.lowest-atom.result false c.requires.1 e) c.rounds-down.ensures.narrows.dropped_grows,
      ),
    )

pub returns : goal.returns
returns t c =
    tries_no c.lowest-atom.result c.spend.ensures c.decide.ensures c.rounds-up.ensures c.some_between-raised.ensures
    c.if-raised.false c.if-raised-eq0.false c.decide-2.ensures c.rounds-down.ensures c.some_between.ensures
