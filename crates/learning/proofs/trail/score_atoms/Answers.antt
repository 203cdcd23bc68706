-- The tally is a part behind the pairs, and comes back as long as it was.
use Rattle.learning.proofs.Prelude.{arith, SCORES, SCORE_PLACES}
use Rattle.learning.proofs.Face.{same_part, scored_part}
use Rattle.learning.proofs.trail.score_atoms.Goals as goal

pub returns : goal.returns
returns c = record {
  same = same_part c.args.memory.now c.count_atoms.new.places SCORES SCORE_PLACES (omega arith) (omega (arith, c.requires)) c.count_atoms.ensures.same_length;
  scored = scored_part c.args.memory.now c.count_atoms.new.places _ c.requires c.count_atoms.ensures;
}
