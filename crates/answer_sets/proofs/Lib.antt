-- What the proofs of this crate name of the kit, of the crates below and of its own definitions, each with its home.
pub mod Prelude
-- The laws of this crate that the proofs of its functions name, each with its home.
pub mod Face
-- The computing twins decide what they are twins of. Rule numbers are bits of a word, so `which` is below 2 ^ 64
pub mod JudgedSets
-- Which rules are lent, and that answer sets of lent words are words
pub mod Lent
-- Which case of a computing definition the tests of the code pick: the answers' equations come in the order of the code
pub mod Cases
-- The uses of contact tables
pub mod Bodies
-- What is known of tests, put together: the three answers are apart, two tests together, and a test the other way round
pub mod Truths
-- What is known of a body at a half-decided position, part by part
pub mod Parts
-- Document 02, S-7
pub mod HalfKnown
-- The rule pass: what each of its steps does to a state keeps every position that satisfies the rule
pub mod RulePass
-- The candidates of the subset test: free atoms of the head where there are some, else those of the body
pub mod Candidates
-- The subset test: what each of its steps says of the completions of a state that are proper subsets of M and satisfy the rules
pub mod Between
-- Answer sets by their members
pub mod Support
-- The memo of a subset test that said none
pub mod Memos
