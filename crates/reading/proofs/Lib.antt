-- What the proofs of this crate name of the kit, of the crates below and of its own definitions, each with its home.
pub mod Prelude
-- The laws of this crate that the proofs of its functions name, each with its home.
pub mod Face
-- Numbers and their bytes, lowest first
pub mod Numbers
-- Words from two to the power of n on
pub mod HighBits
-- TABLE words: how many rows a table has, and which tables are bad
pub mod Tables
-- EDGEs: the rows of predecessors as sets
pub mod Edges
-- USEs on the record: what a use that is not bad has
pub mod Uses
-- Kinds of commands
pub mod CommandKinds
-- The command table by kinds, and by bytes and lists
pub mod CommandLines
-- A command that is no fault: its kind, that no row of the fault table fits it, and what it does to the record
pub mod Commands
-- Reading on, command by command. `walk_keeps` is the one induction over what is left to read
pub mod Walk
-- What holds of the record of every reading, accepted or not
pub mod Limits
-- The reader's loops: what one command more does to the place that is reached
pub mod Groups
-- Lists of elements: one more at the end, what each has, and lists of numbered elements
pub mod ElementLists
-- Words that a list of entries fills: bit j is in the word of key k exactly if an entry has this key and this bit
pub mod KeyedWords
-- The rows of predecessors, from the list of edges: v is in the row of u exactly if the edge (u,v) is in the list
pub mod Predecessors
-- The words of contact tables and rules in the record, and what one TABLE, RULE or USE more does to them
pub mod Program
-- At most MAX_EDGES edges join MAX_UNITS units
pub mod Pigeonhole
-- One command more, of any kind
pub mod Elements
-- COUNT: the test at END decides whether the declared sizes are those of the lists
pub mod Sizes
-- The rows of the fault table in their two forms
pub mod FaultRows
-- The rows as the code tries them, one after the other
pub mod RowsInTurn
-- Reading the layout of lists within the limits accepts and gives their record
pub mod RoundTrip
-- Whenever reading accepts bytes they are the layout of lists within the limits, and the record is theirs
pub mod Accepted
-- Reading answers what `ReadingJudged` says
pub mod JudgedBytes
-- "every reading fault, a 241st EDGE
pub mod EdgeLimit
-- "The longest plan has 2,465 bytes", 9 more with a GIVEN, 1,296 more with all TABLEs and USEs, 9 more with a SHOW, and 4 more with a COUNT
pub mod Longest
-- The first DECIDING_BYTES bytes decide what reading gives
pub mod Prefix
