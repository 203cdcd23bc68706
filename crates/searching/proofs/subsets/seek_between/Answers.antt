-- At first nothing is learnt, and there is no list to join.
use Rattle.searching.proofs.Prelude.{arith, remembers_empty}
use Rattle.searching.proofs.Face.{models_prepared, models_job}
use Rattle.searching.proofs.subsets.seek_between.Goals as goal

pub invariant_of-cx : goal.invariant_of-cx
invariant_of-cx c =
    let p = models_prepared c.models_of-unit.ensures c.lay_out-desk.ensures c.requires.0 in
    record { numbered = omega arith; searchable = p.searchable; backed = p.backed; linked = ∣ p.linked ∣₁; within = p.within; long = p.long }

pub seek_each-requires : goal.seek_each-requires
seek_each-requires c =
    (models_job c.models_of-unit.ensures c.lay_out-desk.ensures, remembers_empty c.empty_store.ensures, c.requires.1)

pub returns : goal.returns
returns c = rw c.models_of-unit.ensures at c.seek_each.ensures
