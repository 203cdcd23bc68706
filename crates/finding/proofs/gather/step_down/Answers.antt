-- One atom is decided, and the steps that this wakes are taken.
use Rattle.finding.proofs.Prelude.{arith, joinable_some, full_filtered}
use Rattle.finding.proofs.Face.{no_lists_full}
use Rattle.finding.proofs.gather.step_down.Goals as goal

pub invariant_of-cx : goal.invariant_of-cx
invariant_of-cx c =
    let p = c.requires.0.serves.prepared in
    record { numbered = omega arith; searchable = p.searchable; backed = p.backed; linked = ∣ p.linked ∣₁; within = p.within; long = p.long }

pub propagate-requires : goal.propagate-requires
propagate-requires c =
    let p = c.requires.0.serves.prepared in
    (c.requires.0.remembers, full_filtered _ _ _ _ _ _ (joinable_some p.searchable.near p.searchable.joinable) no_lists_full)
