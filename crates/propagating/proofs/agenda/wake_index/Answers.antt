-- Six parts, from zeros on.
use Rattle.propagating.proofs.Prelude.{refl, INDEX_WORDS}
use Rattle.propagating.proofs.Face.{index_of}
use Rattle.narrowing.proofs.BackedAtoms.{zeros_at}
use Rattle.propagating.proofs.agenda.wake_index.Goals as goal

pub returns : goal.returns
returns c =
    index_of refl (zeros_at INDEX_WORDS) c.note_rules.ensures c.note_lists.ensures c.note_founded.ensures
    c.note_tables.ensures
    c.note_sums.ensures
    c.note_told.ensures
