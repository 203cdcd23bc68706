-- What the proofs of this crate name of the kit, of the crates below and of its own definitions, each with its home.
pub mod Prelude
-- The laws of this crate that the proofs of its functions name, each with its home.
pub mod Face
-- The laws of digits, in any base and any number of them, each by induction over that number
pub mod Positional
-- The two loops that take the digits of a word from the low end
pub mod DigitLoops
-- Conversion is inverse both ways
pub mod Conversion
-- What a word says as a reading, by cases: 0xFFFF, or four decimal digits
pub mod Readings
-- "Errors, tried first": what `unless_bad` gives where the first bad reading is known, or that there is none
pub mod FirstBad
-- Sums through the numbers: what two readings say together is 10,000 times the carry and what the sum says
pub mod Sums
-- Words in place of numbers: packed digits stand to each other as the numbers do, so a comparison needs no conversion
pub mod Orders
-- The largest reading of a run: what one reading more changes, and the loop over a run of bytes (Seeking)
pub mod LargestReading
-- What the definition of the largest reading means: it is the one that IsLargest describes, and there is no other
pub mod LargestMeaning
-- The definitions of the answers say what document 02 says
pub mod Promises
-- Readings at the edges, computed from the definitions
pub mod Examples
