-- Where a rule is at a stop nothing is left undecided; else the atom that is decided was, so that fewer are.
use Rattle.searching.proofs.Prelude.{further, ended, filtered_branch, filtered_overlap, decided_falls, none_falls}
use Rattle.searching.proofs.dive.descend.Goals as goal

pub returns-in_default : goal.returns-in_default
returns-in_default c = record {
  filtered = filtered_overlap c.args.f.state c.halted.ensures.overlaps c.requires.1;
  remembers = c.requires.0;
  onward = ended c.halted.ensures.overlaps;
  falls = none_falls c.requires.2 c.halted.ensures.decided;
}

pub propagate-requires : goal.propagate-requires
propagate-requires c = (
  c.requires.0,
  filtered_branch c.args.f.state c.in-Open.i c.phase_of-phase.result c.branched-below.ensures c.requires.1,
)

pub returns-clause-onward : goal.returns-clause-onward
returns-clause-onward c =
    let told = rw c.in-Open.is at c.outlook_of-next.ensures in
    let narrows = c.propagate.ensures.narrows in
    further (record { no_stop = told.2; atom = c.in-Open.i; is_atom = told.1; phase = c.phase_of-phase.result; decided = c.branched-below.ensures })
    (record { up_within = narrows.up_grows; dropped_within = narrows.dropped_grows })

pub returns-clause-falls : goal.returns-clause-falls
returns-clause-falls c =
    let told = rw c.in-Open.is at c.outlook_of-next.ensures in
    decided_falls c.args.f.state c.phase_of-phase.result told.0 c.branched-below.ensures c.propagate.ensures.narrows
