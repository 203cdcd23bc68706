use Rattle.contact_tables.proofs.Prelude.{◌≡◌, ◌∙◌, ap, ℕ, ◌≤◌, arith, pow_mono, ATOMS, atom, below, ◌∩◌}
use Rattle.contact_tables.proofs.InputWalks.{walk_stops}
use Rattle.contact_tables.proofs.RowSifting.{sifting_start, sifting_next, sifting_end}
use Rattle.contact_tables.proofs.rows.agreeing_rows.Goals as goal

pub loop-a-init : goal.loop-a-init
loop-a-init c =
    let all : c.into_iter-a-iterator.result.iter.rest ≡ c.args.inputs = cc in
    let bits : c.into_iter-a-iterator.result.n ≡ 6 = cc in
    (omega arith, rw all (sifting_start c.first-rows.ensures))

pub loop-a-preserved : goal.loop-a-preserved
loop-a-preserved c =
    let t = c.in-Some.ensures.steps in
    (omega arith, sifting_next c.loop-a.invariant.1 t.0.lowest (omega arith) c.sifted-rows.ensures t.0.less)

pub first-requires : goal.first-requires
unfolding atom
first-requires c =
    let done : ℕ = c.loop-a.k in
    let rows_small : atom done ≤ ATOMS = pow_mono c.loop-a.invariant.1.walking.few in
    let l = rows_small in omega arith

pub returns : goal.returns
unfolding atom
returns c =
    sifting_end c.ranges.inputs.fits c.loop-a.invariant.1 (walk_stops c.in-None.ensures.steps c.loop-a.invariant.0)
    (c.cut.ensures ∙ ap (λ (w : ℕ). c.loop-a.rows ∩ w) (c.first.ensures ∙ ap below c.single.ensures))
