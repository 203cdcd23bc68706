-- Rules lent as words: first two words to a contact table, then RULE_WORDS to a rule. Where a word stands is said here alone.
use Rattle.std.specs.Prelude.{Bool, true, false, not, ◌&&◌, List, ℕ, ◌+◌, ◌-◌, ◌*◌, ◌/◌, ◌≤◌, min, ltb, length, get_or}
use Rattle.atoms.specs.Word.{Has, ◌∩◌, ◌∪◌, below, apart}
use Rattle.atoms.specs.Bounded.{all_in, union_in}
use Rattle.plan.specs.Limits.{MAX_RULES, MAX_TABLES, CONTACT_WORDS, RULE_WORDS, FIRST_RULE, USES}
use Rattle.contact_tables.specs.ContactTable.{table_answer}
use Rattle.answer_sets.specs.Program.{Program}

-- where the words of rule r start
abbrev pub rule_at : ℕ → ℕ
rule_at r = FIRST_RULE + RULE_WORDS * r

-- the atoms that the body wants dropped
abbrev pub negative : List ℕ → ℕ → ℕ
negative rules r = get_or rules (rule_at r + 2) 0

-- contact table t: S-4, "an input word .. and a truth word"
abbrev pub inputs : List ℕ → ℕ → ℕ
inputs rules t = get_or rules (CONTACT_WORDS * t) 0

abbrev pub truth : List ℕ → ℕ → ℕ
truth rules t = get_or rules (CONTACT_WORDS * t + 1) 0

-- the uses of rule r: a bit for each table that must be true, and behind these one for each that must be false
abbrev pub USE_BITS : ℕ
USE_BITS = 2 * MAX_TABLES

abbrev pub uses : List ℕ → ℕ → ℕ
uses rules r = get_or rules (rule_at r + USES) 0

-- the table that use i is of
unfoldable pub used_table : ℕ → ℕ
used_table i = elim (ltb i MAX_TABLES) [ true ↦ i | false ↦ i - MAX_TABLES ]

-- what use i asks of its table: "0 for must be true or 1 for must be false"
unfoldable pub asks : ℕ → Bool → Bool
asks i said = elim (ltb i MAX_TABLES) [ true ↦ said | false ↦ not said ]

-- use i holds at M
unfoldable pub use_holds : List ℕ → ℕ → ℕ → Bool
use_holds rules i M = asks i (table_answer (inputs rules (used_table i)) (truth rules (used_table i)) M)

-- all uses of rule r hold at M
unfoldable pub uses_hold : List ℕ → ℕ → ℕ → Bool
uses_hold rules r M = all_in USE_BITS (uses rules r) (λ i. use_holds rules i M)

-- the input atoms of the tables that rule r uses, "whichever the sign"
unfoldable pub used_inputs : List ℕ → ℕ → ℕ
used_inputs rules r = union_in USE_BITS (uses rules r) (λ i. inputs rules (used_table i))

-- the atoms that the rest of the body looks at: its negative atoms, and the inputs of the tables it uses
abbrev pub looks : List ℕ → ℕ → ℕ
looks rules r = negative rules r ∪ used_inputs rules r

-- the program that the words are: "M has .. no negative one"; S-4: "A body holds if its words and all its uses hold"
unfoldable pub lent : List ℕ → Program
lent rules = record {
  head = λ r. get_or rules (rule_at r) 0;
  positive = λ r. get_or rules (rule_at r + 1) 0;
  rest = λ r M. apart (negative rules r) M && uses_hold rules r M;
}

-- how many rules the words hold
abbrev pub rule_count_of : List ℕ → ℕ
rule_count_of rules = (length rules - FIRST_RULE) / RULE_WORDS

-- all words of rule r are there, and those of the tables before it
abbrev pub IsLent : List ℕ → ℕ → Type 0
IsLent rules r = rule_at r + RULE_WORDS ≤ length rules

-- each rule numbered in the word is there
pub record Lent (rules : List ℕ) (which : ℕ) : Type 0 where
  pub each : (r : ℕ) → Has which r → IsLent rules r

-- of the numbers in a word those of the n rules lent, as far as their words are there: "bits with no rule are ignored"
unfoldable pub numbered : List ℕ → ℕ → ℕ → ℕ
numbered rules n which = which ∩ below (min MAX_RULES (min n (rule_count_of rules)))
