use Rattle.atoms.proofs.Prelude.{needs}
use Rattle.atoms.proofs.Face.{taken_less}
use Rattle.atoms.proofs.each_atom.MembersIterator.next.Goals as goal

pub returns-clause-goes : goal.returns-clause-goes
returns-clause-goes c = search (taken_less, needs)
