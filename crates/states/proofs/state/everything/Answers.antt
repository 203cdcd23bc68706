-- Atom 0 is in both words, and every atom is in one.
use Rattle.states.proofs.Prelude.{refl}
use Rattle.states.proofs.Face.{all_decided}
use Rattle.states.proofs.state.everything.Goals as goal

pub returns : goal.returns
returns c = record {
  overlaps = record { overlap = λ a. a.none 0 (record { bit = refl }) (record { bit = refl }) };
  decided = all_decided;
  is = refl;
}
