-- A set without the atom is asked for; where there is none the atom is in all of them.
use Rattle.searching.proofs.Face.{asks_found, asks_none}
use Rattle.searching.proofs.subsets.ask_without.Goals as goal

pub returns-in-Some-clause-asks : goal.returns-in-Some-clause-asks
returns-in-Some-clause-asks c = asks_found c.args.t c.args.i c.decide-lowered.ensures c.in-Some.ensures.witnessed

pub returns-in-None-clause-asks : goal.returns-in-None-clause-asks
returns-in-None-clause-asks c =
    asks_none c.args.t c.args.i c.decide-lowered.ensures c.in-None.ensures.witnessed c.decide-raised.ensures c.settled.ensures.narrows
