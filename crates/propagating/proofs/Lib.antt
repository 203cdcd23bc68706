-- What the proofs of this crate name of the kit, of the crates below and of its own definitions, each with its home.
pub mod Prelude
-- The laws of this crate that the proofs of its functions name, each with its home.
pub mod Face
-- The agenda: each step taken makes it lighter, and it grows only where an atom was decided
pub mod Agendas
-- The desk: its parts stand where they are looked for
pub mod Desks
-- Propagation: what is sought survives each step, and the filter keeps its entry
pub mod Propagation
-- The index of woken steps: its lists, the founded step, and all of it from zeros on
pub mod WakeIndices
-- A decoded step is one that there is
pub mod DecodedSteps
