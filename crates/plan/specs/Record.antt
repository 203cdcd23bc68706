-- The record of a plan, and how each command adds to it.
use Rattle.std.specs.Prelude.{ℕ, ◌+◌, ◌*◌, ◌≤◌, get_or, set, replicate}
use Rattle.atoms.specs.Word.{EVERY_ATOM, ◌∪◌, atom}
use Rattle.plan.specs.Limits.{MAX_TABLES, MAX_RULES, MAX_UNITS, CONTACT_WORDS, RULE_WORDS, FIRST_RULE, USES, PROGRAM_WORDS}
use Rattle.plan.specs.declared.record.Declared.{Declared}
use Rattle.plan.specs.declared.record.Once.{Once}
use Rattle.plan.specs.declared.record.OnceWord.{OnceWord}
use Rattle.plan.specs.declared.record.Plan.{Plan}

-- no more contact tables, rules and units than there may be
pub record Fitting (p : Plan) : Type 0 where
  pub tables_fit : p.table_count ≤ MAX_TABLES
  pub rules_fit : p.rule_count ≤ MAX_RULES
  pub units_fit : p.unit_count ≤ MAX_UNITS

-- no sizes are declared
abbrev pub undeclared : Declared
undeclared = record { count = 0; rules = 0; units = 0; edges = 0 }

-- a word that is not there, and what holds without it; the word that stands there once
abbrev pub absent : ℕ → OnceWord
absent otherwise = record { count = 0; word = otherwise }

abbrev pub present : ℕ → OnceWord
present word = record { count = 1; word = word }

-- nothing of what may stand once; S-11: "without it all 64 atoms show"
abbrev pub never_stood : Once
never_stood = record { declared = undeclared; given = absent 0; shown = absent EVERY_ATOM }

-- the record of no commands: all zero but for the atoms that show
unfoldable pub empty_plan : Plan
empty_plan =
    record {
      once = never_stood;
      rules = replicate {A = ℕ} PROGRAM_WORDS 0;
      table_count = 0;
      rule_count = 0;
      use_count = 0;
      units = replicate {A = ℕ} MAX_UNITS 0;
      unit_count = 0;
      predecessors = replicate {A = ℕ} MAX_UNITS 0;
      edge_count = 0;
    }

-- what may stand once, put in its place
abbrev pub with_once : Plan → Once → Plan
with_once p o =
    record {
      once = o;
      rules = p.rules;
      table_count = p.table_count;
      rule_count = p.rule_count;
      use_count = p.use_count;
      units = p.units;
      unit_count = p.unit_count;
      predecessors = p.predecessors;
      edge_count = p.edge_count;
    }

-- S-10: "COUNT .. has three bytes: rules, units, edges": the COUNT
unfoldable pub with_count : Plan → ℕ → ℕ → ℕ → Plan
with_count p rules units edges =
    with_once p
    (record { declared = record { count = 1; rules = rules; units = units; edges = edges }; given = p.once.given; shown = p.once.shown })

-- S-1: "the record of a read plan carries them": the GIVEN
abbrev pub keyed : Once → ℕ → Once
keyed o word = record { declared = o.declared; given = present word; shown = o.shown }

unfoldable pub with_given : Plan → ℕ → Plan
with_given p word = with_once p (keyed p.once word)

-- S-11: "SHOW (0x08) has one word and may stand once": the SHOW
unfoldable pub with_show : Plan → ℕ → Plan
with_show p word = with_once p (record { declared = p.once.declared; given = p.once.given; shown = present word })

-- S-4: "TABLEs .., numbered from 0 as they come": one TABLE more
unfoldable pub with_table : Plan → ℕ → ℕ → Plan
with_table p inputs truth =
    record {
      once = p.once;
      rules = set (set p.rules (CONTACT_WORDS * p.table_count) inputs) (CONTACT_WORDS * p.table_count + 1) truth;
      table_count = p.table_count + 1;
      rule_count = p.rule_count;
      use_count = p.use_count;
      units = p.units;
      unit_count = p.unit_count;
      predecessors = p.predecessors;
      edge_count = p.edge_count;
    }

-- "Rules and units are numbered from 0 as they come": one RULE more
unfoldable pub with_rule : Plan → ℕ → ℕ → ℕ → Plan
with_rule p head positive negative =
    record {
      once = p.once;
      rules =
          set (set (set p.rules (FIRST_RULE + RULE_WORDS * p.rule_count) head) (FIRST_RULE + RULE_WORDS * p.rule_count + 1) positive)
          (FIRST_RULE + RULE_WORDS * p.rule_count + 2)
          negative;
      table_count = p.table_count;
      rule_count = p.rule_count + 1;
      use_count = p.use_count;
      units = p.units;
      unit_count = p.unit_count;
      predecessors = p.predecessors;
      edge_count = p.edge_count;
    }

-- S-4: "0 for must be true or 1 for must be false": the bit of a rule's uses for this table and sign
abbrev pub wanted_bit : ℕ → ℕ → ℕ
wanted_bit table sign = MAX_TABLES * sign + table

-- where the word of rule r's uses stands
abbrev pub uses_at : ℕ → ℕ
uses_at r = FIRST_RULE + RULE_WORDS * r + USES

-- S-4: "USE .. with three bytes: rule, table, and 0 for must be true or 1 for must be false": one USE more
unfoldable pub with_use : Plan → ℕ → ℕ → ℕ → Plan
with_use p r table sign =
    record {
      once = p.once;
      rules = set p.rules (uses_at r) (get_or p.rules (uses_at r) 0 ∪ atom (wanted_bit table sign));
      table_count = p.table_count;
      rule_count = p.rule_count;
      use_count = p.use_count + 1;
      units = p.units;
      unit_count = p.unit_count;
      predecessors = p.predecessors;
      edge_count = p.edge_count;
    }

-- one UNIT more
unfoldable pub with_unit : Plan → ℕ → Plan
with_unit p word =
    record {
      once = p.once;
      rules = p.rules;
      table_count = p.table_count;
      rule_count = p.rule_count;
      use_count = p.use_count;
      units = set p.units p.unit_count word;
      unit_count = p.unit_count + 1;
      predecessors = p.predecessors;
      edge_count = p.edge_count;
    }

-- "Edge (u,v) says that unit u depends on unit v, a direct predecessor of u": one EDGE more
unfoldable pub with_edge : Plan → ℕ → ℕ → Plan
with_edge p u v =
    record {
      once = p.once;
      rules = p.rules;
      table_count = p.table_count;
      rule_count = p.rule_count;
      use_count = p.use_count;
      units = p.units;
      unit_count = p.unit_count;
      predecessors = set p.predecessors u (get_or p.predecessors u 0 ∪ atom v);
      edge_count = p.edge_count + 1;
    }
