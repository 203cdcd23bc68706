-- The second pair lies within the state, or the atom is resolved, whichever of the two has it up.
use Rattle.learning.proofs.Prelude.{refl, needs}
use Rattle.learning.proofs.Face.{resolves_either}
use Rattle.learning.proofs.nogood.merge.Goals as goal

pub returns-then-lies_within : goal.returns-then-lies_within
returns-then-lies_within c = record {
  resolves = record { avoided = λ N a b. a };
  merged = record { within = λ w. refl; beyond = λ n. absurd (n (c.lies_within.ensures.yes c.if-lies_within.true)) };
}

pub returns-then-phase : goal.returns-then-phase
returns-then-phase c = record {
  resolves = search (resolves_either, needs);
  merged = record { within = λ w. absurd (c.lies_within.ensures.no c.if-lies_within.false w); beyond = λ n. rw c.if-phase.true c.resolve.ensures.is };
}

pub returns : goal.returns
returns c = record {
  resolves = c.resolve-2.ensures.resolves;
  merged = record { within = λ w. absurd (c.lies_within.ensures.no c.if-lies_within.false w); beyond = λ n. rw c.if-phase.false c.resolve-2.ensures.is };
}
