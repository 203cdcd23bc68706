use Rattle.auditing.proofs.Prelude.{refl, arith, needs}
use Rattle.auditing.proofs.Face.{words_more}
use Rattle.auditing.proofs.read_words.Goals as goal

pub loop-place-preserved : goal.loop-place-preserved
loop-place-preserved c = search (words_more, needs)

pub returns : goal.returns
returns c =
    record {
      all = refl;
      room = search needs;
      each = λ place l. c.loop-place.invariant.each place (omega arith);
    }
