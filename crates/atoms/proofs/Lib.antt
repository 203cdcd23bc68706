-- What the proofs of this crate name of the kit, of the crates below and of its own definitions, each with its home.
pub mod Prelude
-- The laws of this crate that the proofs of its functions name, each with its home.
pub mod Face
-- The names of the kit that proofs use, each with its home.
pub mod Kit
-- The binary digits of a word, and what each operation does to a digit. Nothing above proofs/Sets.antt cites these
pub mod Digits
-- Laws on Bool tests: what a test's answer says, and when two tests give the same answer
pub mod Tests
-- The laws of words as sets
pub mod Sets
-- The part of a word from an atom on, as a number: it is fixed by the atoms there, and one atom more doubles it
pub mod HighParts
-- How many atoms a word has, its lowest atom and its highest
pub mod Counts
-- The laws of "each" and "some" below a bound, of "each in a word", and of the word of those of which a test holds
pub mod Bounded
-- One number and a word: the set of a number that passes a test, the test of a number in a word, and words of at most one number
pub mod Singles
-- The laws of words that collect the numbers with a property, and of the least number with one
pub mod Collected
-- The atoms of a word one after the other: where they begin
pub mod EachAtom
-- A loop takes the numbers of a word `which`, the lowest first
pub mod TakenNumbers
-- What a loop gathers over the numbers of a word, which it takes one by one, the lowest first
pub mod GatheredWords
-- Rising lists are fixed by their members; `members p n` is the rising list of the numbers below n of which p holds
pub mod Rising
-- The laws of lists of words: members by index, filled up with zeros, and written down by number
pub mod Lists
-- A value put into its place in a rising list: the list stays rising and has one member more
pub mod Insertion
-- Cuts of wanted positions; the cuts of a list's members: rising, once each, and where every atom shows the list itself
pub mod Cuts
-- Words that are stored one by one, and areas that are put together of stored parts
pub mod StoredWords
-- Tallies: what a write does to the counts, a word counted place by place, and the atoms with the highest count
pub mod Tallies
