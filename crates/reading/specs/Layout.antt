-- The bytes of a plan and its record, from its lists. Document 01, "The plan", written down apart from the reader.
use Rattle.std.specs.Prelude.{◌≡◌, true, false, ℕ, zero, suc, ◌*◌, ◌/◌, ◌%◌, ◌^◌, ◌≤◌, ◌<◌, eqb, length, get_or}
use mathlib.Core.List.{List, [], ◌∷◌, ◌++◌, flat_map, Memᴰ}
use Rattle.std.specs.Int.Count.{ones}
use Rattle.atoms.specs.Lists.{padded, tabulate}
use Rattle.atoms.specs.Word.{EVERY_ATOM, Has, Apart, ◌∪◌, atom}
use Rattle.reading.specs.Words.{WORD_BYTES, BYTE_VALUES, WORD_VALUES}
use Rattle.reading.specs.Kinds.{Single, sizes, given, show, Kind, single, table, rule, usage, unit, edge, end}
use Rattle.plan.specs.Limits.{MAX_TABLES, MAX_RULES, MAX_USES, MAX_UNITS, MAX_EDGES, MAX_INPUTS, FIRST_RULE, RULE_WORDS}
use Rattle.plan.specs.Record.{wanted_bit}
use Rattle.plan.specs.declared.record.OnceWord.{OnceWord}
use Rattle.plan.specs.declared.record.Plan.{Plan}

-- S-10: "three bytes: rules, units, edges"
pub record Sizes : Type 0 where
  pub rules : ℕ
  pub units : ℕ
  pub edges : ℕ

-- S-4: a TABLE "with an input word of at most six atoms and a truth word"
pub record TableWords : Type 0 where
  pub inputs : ℕ
  pub truth : ℕ

-- "A rule has three sets: head, positive body, negative body"
pub record RuleWords : Type 0 where
  pub head : ℕ
  pub positive : ℕ
  pub negative : ℕ

-- S-4: USE "with three bytes: rule, table, and 0 for must be true or 1 for must be false"
pub record TableUse : Type 0 where
  pub rule : ℕ
  pub table : ℕ
  pub sign : ℕ

-- "Edge (u,v)"
pub record UnitPair : Type 0 where
  pub u : ℕ
  pub v : ℕ

-- the lowest k bytes of w, lowest first
unfoldable pub bytes_of : ℕ → ℕ → List ℕ
bytes_of zero w = []
bytes_of (suc k) w = w % BYTE_VALUES ∷ bytes_of k (w / BYTE_VALUES)

-- "Words are 64 bits, lowest byte first"
abbrev pub word_bytes : ℕ → List ℕ
word_bytes w = bytes_of WORD_BYTES w

-- S-10: "Command 0x07, COUNT, .. has three bytes: rules, units, edges"
abbrev pub count_bytes : Sizes → List ℕ
count_bytes s = 0x07 ∷ s.rules ∷ s.units ∷ s.edges ∷ []

-- S-1: "Command 0x04, GIVEN, takes one word"
abbrev pub given_bytes : ℕ → List ℕ
given_bytes word = 0x04 ∷ word_bytes word

-- S-4: "TABLEs (0x05) .., each with an input word .. and a truth word"
abbrev pub table_bytes : TableWords → List ℕ
table_bytes t = 0x05 ∷ (word_bytes t.inputs ++ word_bytes t.truth)

-- S-4: "USE (0x06) .. with three bytes"
abbrev pub use_bytes : TableUse → List ℕ
use_bytes x = 0x06 ∷ x.rule ∷ x.table ∷ x.sign ∷ []

-- one line of the command table each
abbrev pub rule_bytes : RuleWords → List ℕ
rule_bytes r = 0x01 ∷ (word_bytes r.head ++ (word_bytes r.positive ++ word_bytes r.negative))

abbrev pub unit_bytes : ℕ → List ℕ
unit_bytes word = 0x02 ∷ word_bytes word

abbrev pub edge_bytes : UnitPair → List ℕ
edge_bytes e = 0x03 ∷ e.u ∷ e.v ∷ []

-- S-11: "SHOW (0x08) has one word"
abbrev pub show_bytes : ℕ → List ℕ
show_bytes word = 0x08 ∷ word_bytes word

abbrev pub end_bytes : List ℕ
end_bytes = 0x00 ∷ []

-- what a command that may stand once says: three numbers, or a word
abbrev pub OnceElement : Single → Type 0
OnceElement sizes = Sizes
OnceElement given = ℕ
OnceElement show = ℕ

-- what a plan says: its lists
pub record Contents : Type 0 where
  pub once : (s : Single) → List (OnceElement s)
  pub tables : List TableWords
  pub rules : List RuleWords
  pub uses : List TableUse
  pub units : List ℕ
  pub edges : List UnitPair

-- what a command of each kind says, and all that those of a kind say
abbrev pub Element : Kind → Type 0
Element (single s) = OnceElement s
Element table = TableWords
Element rule = RuleWords
Element usage = TableUse
Element unit = ℕ
Element edge = UnitPair
Element end = Unit {0}

abbrev pub list_of : Contents → (kind : Kind) → List (Element kind)
list_of c (single s) = c.once s
list_of c table = c.tables
list_of c rule = c.rules
list_of c usage = c.uses
list_of c unit = c.units
list_of c edge = c.edges
list_of c end = []

-- how many commands of the kind there are
abbrev pub kind_count : Contents → Kind → ℕ
kind_count c kind = length (list_of c kind)

-- COUNT "may be the first command", GIVEN "before all RULEs", TABLEs "before RULEs, after GIVEN", USE "after RULEs, before UNITs", "All RULEs come first,
-- then UNITs, then EDGEs", SHOW "just before END": every command but END
unfoldable pub commands : Contents → List ℕ
commands c =
    flat_map count_bytes (c.once sizes)
    ++ (flat_map given_bytes (c.once given)
    ++ (flat_map table_bytes c.tables
    ++ (flat_map rule_bytes c.rules
    ++ (flat_map use_bytes c.uses
    ++ (flat_map unit_bytes c.units ++ (flat_map edge_bytes c.edges ++ flat_map show_bytes (c.once show)))))))

-- "then END"
abbrev pub layout : Contents → List ℕ
layout c = commands c ++ end_bytes

abbrev pub two_words : TableWords → List ℕ
two_words t = t.inputs ∷ t.truth ∷ []

-- the word of key k: of each entry with this key its bit
unfoldable pub word_of : {A : Type 0} → (A → ℕ) → (A → ℕ) → List A → ℕ → ℕ
word_of key bit [] k = 0
word_of key bit (x ∷ xs) k = elim (eqb (key x) k) [ true ↦ word_of key bit xs k ∪ atom (bit x) | false ↦ word_of key bit xs k ]

-- what rule r wants of contact tables: for each of its USEs the bit of the table and the sign
unfoldable pub uses_of : List TableUse → ℕ → ℕ
uses_of uses r = word_of (λ x. x.rule) (λ x. wanted_bit x.table x.sign) uses r

-- the words of the rules from number n on, four each
unfoldable pub rule_words : List TableUse → ℕ → List RuleWords → List ℕ
rule_words uses n [] = []
rule_words uses n (r ∷ rules) = r.head ∷ r.positive ∷ r.negative ∷ uses_of uses n ∷ rule_words uses (suc n) rules

-- the direct predecessors of unit u
unfoldable pub predecessors_of : List UnitPair → ℕ → ℕ
predecessors_of edges u = word_of (λ e. e.u) (λ e. e.v) edges u

-- the sizes of the first COUNT
abbrev pub first_sizes : List Sizes → Sizes
first_sizes declared = get_or declared 0 (record { rules = 0; units = 0; edges = 0 })

-- the first of some words, or what holds without one
abbrev pub once_word : ℕ → List ℕ → OnceWord
once_word otherwise words = record { count = length words; word = get_or words 0 otherwise }

-- the record of the lists; S-11: "without it all 64 atoms show"
unfoldable pub record_of : Contents → Plan
record_of c =
    record {
      once =
          record {
            declared =
                record {
                  count = length (c.once sizes);
                  rules = (first_sizes (c.once sizes)).rules;
                  units = (first_sizes (c.once sizes)).units;
                  edges = (first_sizes (c.once sizes)).edges;
                };
            given = once_word 0 (c.once given);
            shown = once_word EVERY_ATOM (c.once show);
          };
      rules = padded FIRST_RULE (flat_map two_words c.tables) ++ padded (RULE_WORDS * MAX_RULES) (rule_words c.uses 0 c.rules);
      table_count = length c.tables;
      rule_count = length c.rules;
      use_count = length c.uses;
      units = padded MAX_UNITS c.units;
      unit_count = length c.units;
      predecessors = tabulate MAX_UNITS (predecessors_of c.edges);
      edge_count = length c.edges;
    }

abbrev pub IsByte : ℕ → Type 0
IsByte b = b < BYTE_VALUES

abbrev pub All : {A : Type 0} → (A → Type 0) → List A → Type 0
All P [] = Unit {0}
All P (x ∷ xs) = P x × All P xs

abbrev pub AllDistinct : {A : Type 0} → List A → Type 0
AllDistinct [] = Unit {0}
AllDistinct (x ∷ xs) = ¬ Memᴰ x xs × AllDistinct xs

-- two words, at most six inputs, and no set truth bit numbered two to the power of their count or more
pub record GoodTable (t : TableWords) : Type 0 where
  pub inputs_fit : t.inputs < WORD_VALUES
  pub truth_fits : t.truth < WORD_VALUES
  pub few_inputs : ones t.inputs ≤ MAX_INPUTS
  pub rows_there : (j : ℕ) → Has t.truth j → j < 2 ^ ones t.inputs

-- three words, not all zero; S-6: the positive and the negative one share no atom
pub record GoodRule (r : RuleWords) : Type 0 where
  pub head_fits : r.head < WORD_VALUES
  pub positive_fits : r.positive < WORD_VALUES
  pub negative_fits : r.negative < WORD_VALUES
  pub some_word : ¬ ((r.head ≡ 0) × ((r.positive ≡ 0) × (r.negative ≡ 0)))
  pub none_shared : Apart r.positive r.negative

-- a use of one of n tables by one of m rules, with sign 0 or 1
pub record GoodUse (m n : ℕ) (x : TableUse) : Type 0 where
  pub rule_there : x.rule < m
  pub table_there : x.table < n
  pub zero_or_one : x.sign ≤ 1

-- an edge between two of n units
pub record GoodEdge (n : ℕ) (e : UnitPair) : Type 0 where
  pub from_there : e.u < n
  pub to_there : e.v < n
  pub apart : ¬ (e.u ≡ e.v)

-- column "most"; COUNT, GIVEN and SHOW "may stand once"; END ends the commands
abbrev pub at_most : Kind → ℕ
at_most (single s) = 1
at_most table = MAX_TABLES
at_most rule = MAX_RULES
at_most usage = MAX_USES
at_most unit = MAX_UNITS
at_most edge = MAX_EDGES
at_most end = 0

-- what may stand once is words of 64 bits
abbrev pub GoodOnce : (s : Single) → OnceElement s → Type 0
GoodOnce sizes three = Unit {0}
GoodOnce given word = word < WORD_VALUES
GoodOnce show word = word < WORD_VALUES

-- what the commands before END may hold: column "most", and rows 6, 21, 18, 19, 7 and 8 of the fault table
pub record WithinLimits (c : Contents) : Type 0 where
  pub under : (k : Kind) → kind_count c k ≤ at_most k
  pub good_once : (s : Single) → All (GoodOnce s) (c.once s)
  pub good_tables : All GoodTable c.tables
  pub good_rules : All GoodRule c.rules
  pub good_uses : All (GoodUse (length c.rules) (length c.tables)) c.uses
  pub no_use_again : AllDistinct c.uses
  pub good_units : All (λ word. word < 2 ^ length c.rules) c.units
  pub good_edges : All (GoodEdge (length c.units)) c.edges
  pub no_repeat : AllDistinct c.edges

-- S-10: the declared numbers are those of the lists
pub record SizesAgree (c : Contents) (s : Sizes) : Type 0 where
  pub rules_are : s.rules ≡ length c.rules
  pub units_are : s.units ≡ length c.units
  pub edges_are : s.edges ≡ length c.edges

-- a whole plan's COUNT, if there is one, is right
abbrev pub CountRight : Contents → Type 0
CountRight c = All (SizesAgree c) (c.once sizes)

-- the bytes are the layout of these lists, which keep the limits; S-10: the declared sizes are theirs
pub record Lays (bytes : List ℕ) (c : Contents) : Type 0 where
  pub within : WithinLimits c
  pub counted : CountRight c
  pub bytes_are : bytes ≡ layout c

-- where the bytes are the layout of lists, this is their record
pub record Records (bytes : List ℕ) (plan : Plan) : Type 0 where
  pub of_lists : (c : Contents) → Lays bytes c → plan ≡ record_of c

-- the bytes are the layout of lists within the limits, rightly counted, and the record is theirs
pub record IsPlan (bytes : List ℕ) (plan : Plan) : Type 0 where
  pub contents : Contents
  pub within : WithinLimits contents
  pub counted : CountRight contents
  pub bytes_are : bytes ≡ layout contents
  pub record_is : plan ≡ record_of contents
