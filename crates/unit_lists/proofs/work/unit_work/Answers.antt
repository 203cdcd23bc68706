-- A cleared table, the units, the last list: each way out hands back what the definition says.
use Rattle.unit_lists.proofs.Prelude.{◌≡◌, refl, sym, ap, ◌∙◌, List, ℕ, LongList, working_order, Units, units_of, cleared, no_counts_of}
use Rattle.unit_lists.proofs.Prelude.{unit_work, after_units, handed_refused, last_fits, last_long, work_cleared, held_cleared}
use Rattle.unit_lists.proofs.WorkedUnits.{working_start, working_there, working_last}
use Rattle.unit_lists.proofs.work.unit_work.Goals as goal

-- unit work says the same of the cleared table
same_work : (S : Units) (table : List ℕ) {cleaned : List ℕ} → cleaned ≡ cleared table → unit_work S table ≡ unit_work S cleaned
same_work S table e = sym (ap (unit_work S) e ∙ work_cleared S table (working_order S))

pub list_units-worked-requires : goal.list_units-worked-requires
unfolding units_of no_counts_of
list_units-worked-requires c = (
  record { workable = c.requires.0; heads_of = c.head_atoms-head_atoms.ensures },
  rw c.clear.ensures (working_start (units_of c.args.plan) c.args.table.now c.requires.0.fits.units_fit c.requires.1),
)

pub returns-in-Err : goal.returns-in-Err
returns-in-Err c =
    handed_refused (LongList c.in-Err.u)
    (same_work _ c.args.table.now c.clear.ensures ∙ c.list_units-worked.ensures.answer_is ∙ ap (after_units _ _) c.in-Err.is) c.refuse_long.ensures.refused
    (c.refuse_long.ensures.emptied ∙ held_cleared c.list_units-worked.ensures.working.holding)

pub list_last-requires : goal.list_last-requires
unfolding units_of
list_last-requires c = (
  record { workable = c.requires.0; heads_of = c.head_atoms-head_atoms.ensures },
  working_there c.list_units-worked.ensures.working _ (c.list_units-worked.ensures.all_done c.in_default.is),
)

pub returns-then-not-list_last : goal.returns-then-not-list_last
unfolding units_of
returns-then-not-list_last c =
    let w = c.list_units-worked.ensures in
    let long = c.list_last.ensures.when_long c.if-not-list_last.true in
    handed_refused (LongList c.args.plan.unit_count)
    (same_work _ c.args.table.now c.clear.ensures ∙ w.answer_is ∙ ap (after_units _ _) c.in_default.is ∙ last_long _ _ long.0)
    c.refuse_long-then-not-list_last.ensures.refused
    (c.refuse_long-then-not-list_last.ensures.emptied ∙ ap cleared long.1 ∙ held_cleared w.working.holding)

pub returns : goal.returns
unfolding units_of
returns c =
    let w = c.list_units-worked.ensures in
    let yes = c.if-not-list_last.false in
    let left = same_work _ c.args.table.now c.clear.ensures ∙ w.answer_is ∙ ap (after_units _ _) c.in_default.is in
    let e = left ∙ last_fits _ _ (c.list_last.ensures.when_fits yes).0 in
    let held = working_last w.working (w.all_done c.in_default.is) c.list_last.ensures yes in
    rw e (record { outcome_is = refl; counts_are = held.counts_are; table_is = held.table_is })
