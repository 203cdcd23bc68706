-- Both words of each pair have atom 0, and what is made zero stands behind them.
use Rattle.learning.proofs.Prelude.{refl, ◌-◌, arith, replicate, MEMORY_WORDS, PLACE}
use Rattle.atoms.proofs.Prelude.{EVERY_ATOM}
use Rattle.learning.proofs.Face.{empty_of, empty_same, same_part}
use Rattle.learning.proofs.store.empty_store.Goals as goal

pub returns : goal.returns
returns c =
    empty_same (empty_of {a = 0} (record { bit = refl }))
    (same_part (replicate MEMORY_WORDS EVERY_ATOM) c.fill.new.self PLACE (MEMORY_WORDS - PLACE) (omega arith) (omega arith) c.fill.ensures.len)
