-- The limits of a plan, of its lists and of the lent table (document 01, The plan, The lent table). What follows from another number is
-- derived from it.
use Rattle.std.specs.Prelude.{ℕ, ◌+◌, ◌-◌, ◌*◌}
use Rattle.atoms.specs.Word.{ATOMS}

-- column "most": RULE 64, as many as a word has bits: "bit i for rule i"
abbrev pub MAX_RULES : ℕ
MAX_RULES = ATOMS

-- column "most": UNIT 16
abbrev pub MAX_UNITS : ℕ
MAX_UNITS = 16

-- column "most": EDGE 240, one between any two units each way
abbrev pub MAX_EDGES : ℕ
MAX_EDGES = MAX_UNITS * (MAX_UNITS - 1)

-- S-4: "At most 16 tables and 256 USEs"
abbrev pub MAX_TABLES : ℕ
MAX_TABLES = 16

abbrev pub MAX_USES : ℕ
MAX_USES = 256

-- S-4: "an input word of at most six atoms"
abbrev pub MAX_INPUTS : ℕ
MAX_INPUTS = 6

-- S-4: a contact table has "an input word .. and a truth word"
abbrev pub CONTACT_WORDS : ℕ
CONTACT_WORDS = 2

-- the record has the words of the contact tables in front, then those of the rules
abbrev pub FIRST_RULE : ℕ
FIRST_RULE = CONTACT_WORDS * MAX_TABLES

-- "head, positive, negative: three words", and the word of the rule's uses behind them
abbrev pub RULE_WORDS : ℕ
RULE_WORDS = 4

abbrev pub USES : ℕ
USES = 3

-- all words of contact tables and rules
abbrev pub PROGRAM_WORDS : ℕ
PROGRAM_WORDS = FIRST_RULE + RULE_WORDS * MAX_RULES

-- "zeros fill up its 256 words"
abbrev pub LIST_WORDS : ℕ
LIST_WORDS = 256

-- the count that says "list above 256"
abbrev pub OVERFULL : ℕ
OVERFULL = LIST_WORDS + 1

-- "the last list at word 4,096"
abbrev pub LAST_LIST : ℕ
LAST_LIST = LIST_WORDS * MAX_UNITS

-- "It has at least 4,352 words."
abbrev pub TABLE_WORDS : ℕ
TABLE_WORDS = LIST_WORDS * (MAX_UNITS + 1)

-- "seventeen counts are returned, .. the last list's count coming last"
abbrev pub COUNTS : ℕ
COUNTS = MAX_UNITS + 1

abbrev pub LAST_COUNT : ℕ
LAST_COUNT = MAX_UNITS
