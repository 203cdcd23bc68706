-- One command: its kind, its operands, and the rows of the fault table that it is held against.
-- Document 01, "The plan" and "Faults, by where they are found", place "reading".
use Rattle.std.specs.Prelude.{List, [], ◌∷◌, ◌++◌, Bool, true, false, not, ◌||◌, ◌&&◌, ℕ, suc, ◌+◌, ◌*◌, ◌^◌, length, get_or, eqb, ltb, leb}
use Rattle.std.proofs.Math.Option.{Option, some, none}
use Rattle.std.specs.Int.Count.{ones}
use Rattle.atoms.specs.Word.{has, apart}
pub use Rattle.reading.specs.Kinds.{Single, sizes, given, show, Kind, single, table, rule, usage, unit, edge, end, kind_discrete}
use Rattle.reading.specs.Words.{WORD_BYTES, word_at}
use Rattle.plan.specs.Limits.{MAX_TABLES, MAX_RULES, MAX_USES, MAX_UNITS, MAX_EDGES, MAX_INPUTS, CONTACT_WORDS}
use Rattle.plan.specs.Record.{wanted_bit, uses_at}
use Rattle.plan.specs.declared.record.Plan.{Plan}
use Rattle.reading.specs.declared.command.Command.{Command}
use Rattle.reading.specs.declared.command.Command.TheVariants.{Count, Given, Table, Rule, Use, Unit as UnitOf, Edge, Show, End, Fault as Faulty}
use Rattle.plan.specs.declared.fault.Fault.{Fault}
use Rattle.plan.specs.declared.fault.Fault.TheVariants.{Truncated, UnknownCommand, OutOfOrder, TooMany}
use Rattle.plan.specs.declared.fault.Fault.TheVariants.{EmptyRule, ContradictoryBody, BadTable, BadUse, AbsentRule, BadEdge, WrongCount, TrailingBytes}

-- all kinds, in the order of their groups: COUNT "may be the first command"; "All RULEs come first, then UNITs, then EDGEs, then END"; GIVEN stands
-- "before all RULEs", TABLEs "before RULEs, after GIVEN", USE "after RULEs, before UNITs", SHOW "just before END"
abbrev pub kinds : List Kind
kinds = single sizes ∷ single given ∷ table ∷ rule ∷ usage ∷ unit ∷ edge ∷ single show ∷ end ∷ []

-- column "most": "may stand once", so that a second one is out of order; at most so many, and one more is 5; or so many because rows of its own stop any
-- further one
pub data Most : Type 0 where
  once : Most
  up_to : ℕ → Most
  runs_out_at : ℕ → Most

-- a line of the command table: columns "byte", "operands" in bytes, and "most"; and where the record says how many are read
pub record CommandLine : Type 0 where
  pub byte : ℕ
  pub operands : ℕ
  pub most : Most
  pub read : Plan → ℕ

abbrev line : ℕ → ℕ → Most → (Plan → ℕ) → CommandLine
line b n m r = record { byte = b; operands = n; most = m; read = r }

-- "head, positive, negative: three words"
abbrev pub RULE_OPERAND_WORDS : ℕ
RULE_OPERAND_WORDS = 3

-- the lines of the commands that may stand once
abbrev pub once_line : Single → CommandLine
once_line sizes = line 0x07 3 once (λ p. p.once.declared.count)
once_line given = line 0x04 WORD_BYTES once (λ p. p.once.given.count)
once_line show = line 0x08 WORD_BYTES once (λ p. p.once.shown.count)

-- the command table. "65th RULE, 17th UNIT" and S-4's "17th and the 257th are 5"; a 241st EDGE names no unit, joins a unit to itself or is a repeat, so it
-- has row 8 alone
abbrev pub line_of : Kind → CommandLine
line_of (single s) = line (once_line s).byte (once_line s).operands once (once_line s).read
line_of table = line 0x05 (CONTACT_WORDS * WORD_BYTES) (up_to MAX_TABLES) (λ p. p.table_count)
line_of rule = line 0x01 (RULE_OPERAND_WORDS * WORD_BYTES) (up_to MAX_RULES) (λ p. p.rule_count)
line_of usage = line 0x06 3 (up_to MAX_USES) (λ p. p.use_count)
line_of unit = line 0x02 WORD_BYTES (up_to MAX_UNITS) (λ p. p.unit_count)
line_of edge = line 0x03 2 (runs_out_at MAX_EDGES) (λ p. p.edge_count)
line_of end = line 0x00 0 (runs_out_at 1) (λ p. 0)

abbrev pub byte_of : Kind → ℕ
byte_of k = (line_of k).byte

abbrev pub operand_bytes : Kind → ℕ
operand_bytes k = (line_of k).operands

abbrev pub most_of : Kind → Most
most_of k = (line_of k).most

-- how many commands of the kind are read
abbrev pub count : Plan → Kind → ℕ
count p k = (line_of k).read p

-- "One byte names a command"
abbrev pub kind_among : List Kind → ℕ → Option Kind
kind_among [] b = none
kind_among (kind ∷ kinds) b = elim (eqb b (byte_of kind)) [ true ↦ some kind | false ↦ kind_among kinds b ]

unfoldable pub kind_of : ℕ → Option Kind
kind_of b = kind_among kinds b

-- the place of a kind's group in the order
abbrev pub place_among : List Kind → ℕ → ℕ
place_among [] b = 0
place_among (kind ∷ kinds) b = elim (eqb b (byte_of kind)) [ true ↦ 0 | false ↦ suc (place_among kinds b) ]

abbrev pub order_of : Kind → ℕ
order_of k = place_among kinds (byte_of k)

-- the earliest kind that may come behind a command of this kind: of those that "may stand once" the next one, and another group goes on
abbrev pub earliest_behind : Kind → Kind
earliest_behind k = elim (most_of k) [ once ↦ get_or kinds (suc (order_of k)) end | up_to n ↦ k | runs_out_at n ↦ k ]

-- "A command is one of four kinds carrying its operands": of nine, with COUNT, GIVEN, TABLE, USE and SHOW
unfoldable pub carrying : Kind → List ℕ → Command
carrying (single sizes) operands = Count (get_or operands 0 0) (get_or operands 1 0) (get_or operands 2 0)
carrying (single given) operands = Given (word_at 0 operands)
carrying table operands = Table (word_at 0 operands) (word_at WORD_BYTES operands)
carrying rule operands = Rule (word_at 0 operands) (word_at WORD_BYTES operands) (word_at (2 * WORD_BYTES) operands)
carrying usage operands = Use (get_or operands 0 0) (get_or operands 1 0) (get_or operands 2 0)
carrying unit operands = UnitOf (word_at 0 operands)
carrying edge operands = Edge (get_or operands 0 0) (get_or operands 1 0)
carrying (single show) operands = Show (word_at 0 operands)
carrying end operands = End

-- whether a command of these kinds is read behind which none of this group may come
abbrev pub some_behind : Plan → ℕ → List Kind → Bool
some_behind p group [] = false
some_behind p group (j ∷ js) = (ltb 0 (count p j) && ltb group (order_of (earliest_behind j))) || some_behind p group js

-- "command out of group order": there is a command behind which it may not come; "a second or late GIVEN is 4"; S-10: COUNT "may be the first
-- command .. Elsewhere it is 4";
-- S-11: "After SHOW every known command but END is 4."
unfoldable pub late : Plan → ℕ → Bool
late p group = some_behind p group kinds

-- 5: one more than column "most" allows, of n that are read
abbrev pub no_room_of : Most → ℕ → Bool
no_room_of once n = false
no_room_of (up_to m) n = leb m n
no_room_of (runs_out_at m) n = false

abbrev pub full : Plan → Kind → Bool
full p k = no_room_of (most_of k) (count p k)

-- "RULE with three zero words"
unfoldable pub empty_rule : ℕ → ℕ → ℕ → Bool
empty_rule head positive negative = eqb head 0 && eqb positive 0 && eqb negative 0

-- S-6: "positive and negative words share an atom"
unfoldable pub contradictory : ℕ → ℕ → Bool
contradictory positive negative = not (apart positive negative)

-- S-4: "TABLE with seven or more inputs, or a set truth bit numbered two to the power of the input count or more"
unfoldable pub bad_table : ℕ → ℕ → Bool
bad_table inputs truth = elim (ltb MAX_INPUTS (ones inputs)) [ true ↦ true | false ↦ leb (2 ^ 2 ^ ones inputs) truth ]

-- S-4: "USE of an absent rule or table, another sign, or the same three bytes again"
unfoldable pub bad_use : Plan → ℕ → ℕ → ℕ → Bool
bad_use p r t sign =
    leb p.rule_count r || leb p.table_count t || ltb 1 sign || has (get_or p.rules (uses_at r) 0) (wanted_bit t sign)

-- "UNIT names a rule that isn't there": a bit from the count of rules on
unfoldable pub absent_rule : Plan → ℕ → Bool
absent_rule p word = leb (2 ^ p.rule_count) word

-- "EDGE: no such unit, u = v, or a repeat"
unfoldable pub bad_edge : Plan → ℕ → ℕ → Bool
bad_edge p u v = leb p.unit_count u || leb p.unit_count v || eqb u v || has (get_or p.predecessors u 0) v

-- S-10: "a declared number differs from what was read": RULEs, UNITs and EDGEs alone are counted
unfoldable pub miscounted : Plan → Bool
miscounted p =
    let declared = p.once.declared in
    ltb 0 declared.count
    && not (eqb declared.rules p.rule_count && eqb declared.units p.unit_count && eqb declared.edges p.edge_count)

-- a row of the fault table: whether it fits, and its fault with the spot
pub record Row : Type 0 where
  pub fits : Bool
  pub fault : Fault

abbrev row : Bool → Fault → Row
row b f = record { fits = b; fault = f }

-- rows 4 and 5: what the kind alone tells, once p is read and the command stands at `at`
abbrev pub kind_rows : Plan → ℕ → Kind → List Row
kind_rows p at kind = row (late p (order_of kind)) (OutOfOrder at) ∷ row (full p kind) (TooMany at) ∷ []

-- rows 6, 21, 18, 19, 7, 8, 23 and 9: what the operands tell, and at END the sizes; S-10: "found at END before 9, spot 0"
abbrev pub operand_rows : Plan → ℕ → Kind → List ℕ → List Row
operand_rows p at (single s) operands = []
operand_rows p at table operands = row (bad_table (word_at 0 operands) (word_at WORD_BYTES operands)) (BadTable at) ∷ []
operand_rows p at rule operands =
    row (empty_rule (word_at 0 operands) (word_at WORD_BYTES operands) (word_at (2 * WORD_BYTES) operands)) (EmptyRule at)
    ∷ row (contradictory (word_at WORD_BYTES operands) (word_at (2 * WORD_BYTES) operands)) (ContradictoryBody at)
    ∷ []
operand_rows p at usage operands = row (bad_use p (get_or operands 0 0) (get_or operands 1 0) (get_or operands 2 0)) (BadUse at) ∷ []
operand_rows p at unit operands = row (absent_rule p (word_at 0 operands)) (AbsentRule at) ∷ []
operand_rows p at edge operands = row (bad_edge p (get_or operands 0 0) (get_or operands 1 0)) (BadEdge at) ∷ []
operand_rows p at end operands = row (miscounted p) (WrongCount 0) ∷ row (ltb 0 (length operands)) (TrailingBytes (at + 1)) ∷ []

-- the rows that a command of each kind can meet, from top to bottom; row 2 stands between the two
abbrev pub rows : Plan → ℕ → Kind → List ℕ → List Row
rows p at kind operands =
    kind_rows p at kind ++ (row (ltb (length operands) (operand_bytes kind)) (Truncated at) ∷ operand_rows p at kind operands)

-- "inside a place the first row that fits counts": its fault, or the command where no row fits
abbrev pub first_fit : List Row → Command → Command
first_fit [] command = command
first_fit (r ∷ rs) command = elim r.fits [ true ↦ Faulty r.fault | false ↦ first_fit rs command ]

-- "A command is one of four kinds carrying its operands, or the fault that stopped it"
unfoldable pub of_kind : Plan → ℕ → Kind → List ℕ → Command
of_kind p at kind operands = first_fit (rows p at kind operands) (carrying kind operands)

-- the command at `at`, where `rest` is the plan from there: its first byte and "the bytes that follow it"
unfoldable pub command_at : Plan → ℕ → List ℕ → Command
command_at p at [] = Faulty (Truncated at)
command_at p at (b ∷ operands) = elim (kind_of b) [ none ↦ Faulty (UnknownCommand at) | some kind ↦ of_kind p at kind operands ]
