-- What the proofs of this crate name of the kit, of the crates below and of its own definitions, each with its home.
pub mod Prelude
-- Positions cut to head atoms, cut again or not cut at all
pub mod UnitCuts
-- Lists through the words of head atoms
pub mod Words
-- A unit's list in the form that a search asks
pub mod Form
-- Lists by what holds unit by unit
pub mod Local
-- An answer set of the whole program is an answer set in every unit
pub mod FilledUnits
-- The whole program unit by unit
pub mod Whole
-- The list of a unit that has every unit under it is the set of answer sets of the whole program
pub mod Top
-- The last list is exactly the set of answer sets of the whole program
pub mod Last
-- No member of a list lies within another
pub mod Antichain
-- A list depends on the unit's own rules and on those it reaches
pub mod UnitAgreement
