-- What reading accepts and refuses, said of a plan's lists and their layout alone: the reader, its command table, its record and its steps are not spoken of.
-- Document 01, "Faults, by where they are found", place "reading"; document 02, S-1, S-4, S-6, S-10 and S-11.
use Rattle.std.specs.Prelude.{◌≡◌, ◌↔◌, ℕ, suc, ◌+◌, ◌^◌, ◌≤◌, ◌<◌, length}
use mathlib.Core.List.{List, [], ◌∷◌, ◌++◌, Memᴰ}
use Rattle.std.specs.Int.Count.{ones}
use Rattle.atoms.specs.Word.{Has}
use Rattle.plan.specs.Limits.{MAX_INPUTS}
use Rattle.plan.specs.Faults.{RefusedBy, FaultRow, FirstFit}
use Rattle.reading.specs.Kinds.{sizes, given, show}
use Rattle.reading.specs.Words.{WORD_VALUES}
use Rattle.reading.specs.Layout.{Sizes, TableWords, RuleWords, TableUse, UnitPair, Contents, table_bytes, rule_bytes, use_bytes, unit_bytes, edge_bytes}
use Rattle.reading.specs.Layout.{end_bytes, commands, layout, WithinLimits, CountRight}
use Rattle.plan.specs.Faults.{Accepted, Outcome}

-- ---- the rows: c is what the commands before say, `rest` the bytes from the command on

-- columns "byte" and "operands" of the command table, the operands in bytes; GIVEN of S-1, TABLE and USE of S-4, COUNT of S-10, SHOW of S-11
pub data Line : ℕ → ℕ → Type 0 where
  end_line : Line 0x00 0
  rule_line : Line 0x01 24
  unit_line : Line 0x02 8
  edge_line : Line 0x03 2
  given_line : Line 0x04 8
  table_line : Line 0x05 16
  use_line : Line 0x06 3
  count_line : Line 0x07 3
  show_line : Line 0x08 8

-- 3: "unknown command byte"
pub record UnknownByte (rest : List ℕ) : Type 0 where
  pub byte : ℕ
  pub behind : List ℕ
  pub is : rest ≡ byte ∷ behind
  pub names_none : (operands : ℕ) → ¬ Line byte operands

-- how many commands there are that stand behind all EDGEs, behind all UNITs, .. : SHOW "just before END", "All RULEs come first, then UNITs, then EDGEs",
-- USE "after RULEs, before UNITs", TABLEs "before RULEs, after GIVEN", GIVEN "before all RULEs"
abbrev pub behind_edges : Contents → ℕ
behind_edges c = length (c.once show)

abbrev pub behind_units : Contents → ℕ
behind_units c = length c.edges + behind_edges c

abbrev pub behind_uses : Contents → ℕ
behind_uses c = length c.units + behind_units c

abbrev pub behind_rules : Contents → ℕ
behind_rules c = length c.uses + behind_uses c

abbrev pub behind_tables : Contents → ℕ
behind_tables c = length c.rules + behind_rules c

abbrev pub behind_given : Contents → ℕ
behind_given c = length c.tables + behind_tables c

abbrev pub behind_count : Contents → ℕ
behind_count c = length (c.once given) + behind_given c

-- a command with this byte comes too late: one is there behind which it may not come. COUNT "may be the first command .. Elsewhere it is 4"; "a second or late
-- GIVEN is 4"; SHOW "may stand once"; "After SHOW every known command but END is 4", and END never is
pub data TooLate (c : Contents) : ℕ → Type 0 where
  late_count : 0 < length (c.once sizes) + behind_count c → TooLate c 0x07
  late_given : 0 < length (c.once given) + behind_given c → TooLate c 0x04
  late_table : 0 < behind_tables c → TooLate c 0x05
  late_rule : 0 < behind_rules c → TooLate c 0x01
  late_use : 0 < behind_uses c → TooLate c 0x06
  late_unit : 0 < behind_units c → TooLate c 0x02
  late_edge : 0 < behind_edges c → TooLate c 0x03
  second_show : 0 < length (c.once show) → TooLate c 0x08

-- 4: "command out of group order"
pub record OutOfGroupOrder (c : Contents) (rest : List ℕ) : Type 0 where
  pub byte : ℕ
  pub behind : List ℕ
  pub is : rest ≡ byte ∷ behind
  pub too_late : TooLate c byte

-- no further command with this byte has room: "65th RULE, 17th UNIT"; S-4: "At most 16 tables and 256 USEs; the 17th and the 257th are 5". A 241st EDGE is 8,
-- or 2 where it is cut short
pub data NoRoom (c : Contents) : ℕ → Type 0 where
  seventeenth_table : 16 ≤ length c.tables → NoRoom c 0x05
  sixty_fifth_rule : 64 ≤ length c.rules → NoRoom c 0x01
  two_hundred_fifty_seventh_use : 256 ≤ length c.uses → NoRoom c 0x06
  seventeenth_unit : 16 ≤ length c.units → NoRoom c 0x02

-- 5: "65th RULE, 17th UNIT"
pub record OneTooMany (c : Contents) (rest : List ℕ) : Type 0 where
  pub byte : ℕ
  pub behind : List ℕ
  pub is : rest ≡ byte ∷ behind
  pub no_room : NoRoom c byte

-- 2: "bytes end before END or inside operands"
pub data CutShort (rest : List ℕ) : Type 0 where
  before_end : rest ≡ [] → CutShort rest
  inside_operands : {byte operands : ℕ} {behind : List ℕ} → Line byte operands → rest ≡ byte ∷ behind → length behind < operands → CutShort rest

-- 6: "RULE with three zero words"
pub record ZeroRule (rest : List ℕ) : Type 0 where
  pub more : List ℕ
  pub is : rest ≡ rule_bytes (record { head = 0; positive = 0; negative = 0 }) ++ more

-- 21 (02, S-6): "positive and negative words share an atom"
pub record ContradictoryRule (rest : List ℕ) : Type 0 where
  pub words : RuleWords
  pub more : List ℕ
  pub is : rest ≡ rule_bytes words ++ more
  pub head_fits : words.head < WORD_VALUES
  pub positive_fits : words.positive < WORD_VALUES
  pub negative_fits : words.negative < WORD_VALUES
  pub atom : ℕ
  pub wanted_up : Has words.positive atom
  pub wanted_dropped : Has words.negative atom

-- 18 (02, S-4): "TABLE with seven or more inputs, or a set truth bit numbered two to the power of the input count or more"
pub data NoTable (t : TableWords) : Type 0 where
  seven_inputs : MAX_INPUTS < ones t.inputs → NoTable t
  no_such_row : (j : ℕ) → Has t.truth j → 2 ^ ones t.inputs ≤ j → NoTable t

pub record WrongTable (rest : List ℕ) : Type 0 where
  pub words : TableWords
  pub more : List ℕ
  pub is : rest ≡ table_bytes words ++ more
  pub inputs_fit : words.inputs < WORD_VALUES
  pub truth_fits : words.truth < WORD_VALUES
  pub wrong : NoTable words

-- 19 (02, S-4): "USE of an absent rule or table, another sign, or the same three bytes again"
pub data NoNewUse (c : Contents) (x : TableUse) : Type 0 where
  no_such_rule : length c.rules ≤ x.rule → NoNewUse c x
  no_such_table : length c.tables ≤ x.table → NoNewUse c x
  another_sign : ¬ (x.sign ≡ 0) → ¬ (x.sign ≡ 1) → NoNewUse c x
  again : Memᴰ x c.uses → NoNewUse c x

pub record WrongUse (c : Contents) (rest : List ℕ) : Type 0 where
  pub three : TableUse
  pub more : List ℕ
  pub is : rest ≡ use_bytes three ++ more
  pub wrong : NoNewUse c three

-- 7: "UNIT names a rule that isn't there"
pub record NamesAbsentRule (c : Contents) (rest : List ℕ) : Type 0 where
  pub word : ℕ
  pub more : List ℕ
  pub is : rest ≡ unit_bytes word ++ more
  pub fits : word < WORD_VALUES
  pub named : ℕ
  pub names : Has word named
  pub absent : length c.rules ≤ named

-- 8: "EDGE: no such unit, u = v, or a repeat"
pub data NoNewEdge (c : Contents) (e : UnitPair) : Type 0 where
  no_such_u : length c.units ≤ e.u → NoNewEdge c e
  no_such_v : length c.units ≤ e.v → NoNewEdge c e
  to_itself : e.u ≡ e.v → NoNewEdge c e
  repeated : Memᴰ e c.edges → NoNewEdge c e

pub record WrongEdge (c : Contents) (rest : List ℕ) : Type 0 where
  pub pair : UnitPair
  pub more : List ℕ
  pub is : rest ≡ edge_bytes pair ++ more
  pub wrong : NoNewEdge c pair

-- 23 (02, S-10): "a declared number differs from what was read, found at END"
pub data Differs (c : Contents) (s : Sizes) : Type 0 where
  in_rules : ¬ (s.rules ≡ length c.rules) → Differs c s
  in_units : ¬ (s.units ≡ length c.units) → Differs c s
  in_edges : ¬ (s.edges ≡ length c.edges) → Differs c s

pub record Miscounted (c : Contents) (rest : List ℕ) : Type 0 where
  pub more : List ℕ
  pub is : rest ≡ end_bytes ++ more
  pub three : Sizes
  pub declared : Memᴰ three (c.once sizes)
  pub differs : Differs c three

-- 9: "bytes after END"
pub record BytesAfterEnd (rest : List ℕ) : Type 0 where
  pub first : ℕ
  pub more : List ℕ
  pub is : rest ≡ end_bytes ++ (first ∷ more)

-- ---- the place

abbrev pub fault_row : ℕ → Type 0 → ℕ → FaultRow
fault_row n fits s = record { no = n; Fits = fits; at = s }

-- the reading place's rows from top to bottom, for the command at `offset`
abbrev pub reading_place_of : Contents → ℕ → List ℕ → List FaultRow
reading_place_of c offset rest =
    fault_row 3 (UnknownByte rest) offset
    ∷ fault_row 4 (OutOfGroupOrder c rest) offset
    ∷ fault_row 5 (OneTooMany c rest) offset
    ∷ fault_row 2 (CutShort rest) offset
    ∷ fault_row 6 (ZeroRule rest) offset
    ∷ fault_row 21 (ContradictoryRule rest) offset
    ∷ fault_row 18 (WrongTable rest) offset
    ∷ fault_row 19 (WrongUse c rest) offset
    ∷ fault_row 7 (NamesAbsentRule c rest) offset
    ∷ fault_row 8 (WrongEdge c rest) offset
    ∷ fault_row 23 (Miscounted c rest) 0
    ∷ fault_row 9 (BytesAfterEnd rest) (suc offset)
    ∷ []

-- "tried per command in reading", "from the left": behind commands that no row stops, n and s are the first row that fits the next one
pub record Stopped (bytes : List ℕ) (n s : ℕ) : Type 0 where
  pub contents : Contents
  pub within : WithinLimits contents
  pub rest : List ℕ
  pub split : bytes ≡ commands contents ++ rest
  pub first : FirstFit (reading_place_of contents (length (commands contents)) rest) n s

-- what reading answers: accepted exactly if the bytes are the layout of lists within the limits, rightly counted; refused exactly by the row that stops
-- them
pub record ReadingJudged (bytes : List ℕ) (outcome : Outcome) : Type 0 where
  pub accepted : (outcome ≡ Accepted) ↔ ((c : Contents) × WithinLimits c × CountRight c × (bytes ≡ layout c))
  pub refused : (n s : ℕ) → RefusedBy outcome n s ↔ Stopped bytes n s
