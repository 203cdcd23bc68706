-- Inner: linked rules: the same rules with pilots in place of uses.
use Rattle.std.specs.Prelude.{◌≡◌, List, ◌⊎◌, ℕ, ◌+◌, ◌*◌, ◌/◌, ◌^◌, ◌≤◌, ◌<◌, length, get_or, set}
use Rattle.atoms.specs.Word.{Has, ◌⊆◌, ◌∪◌, ◌∖◌}
use Rattle.atoms.specs.Bounded.{union_in}
use Rattle.plan.specs.Limits.{MAX_TABLES, MAX_RULES, FIRST_RULE, RULE_WORDS}
use Rattle.answer_sets.specs.Lent.{rule_at, lent, Lent, negative, uses, used_table}

-- the pilots of the tables that rule r wants true, and of those that it wants false
abbrev pub on_pilots : List ℕ → List ℕ → ℕ → ℕ
on_pilots rules pilots r = union_in MAX_TABLES (uses rules r) (λ t. get_or pilots t 0)

abbrev pub off_pilots : List ℕ → List ℕ → ℕ → ℕ
off_pilots rules pilots r = union_in MAX_TABLES (uses rules r / 2 ^ MAX_TABLES) (λ t. get_or pilots t 0)

-- rule r has the pilots in its words, in place of the uses that they stand for
pub record LinkedRule (rules pilots : List ℕ) (told : ℕ) (linked : List ℕ) (r : ℕ) : Type 0 where
  pub head : (lent linked).head r ≡ (lent rules).head r
  pub positive : (lent linked).positive r ≡ (lent rules).positive r ∪ on_pilots rules pilots r
  pub negative : negative linked r ≡ negative rules r ∪ off_pilots rules pilots r
  pub uses : uses linked r ≡ uses rules r ∖ told

-- the uses that pilots stand for are of tables with a pilot
pub record ToldUses (pilots : List ℕ) (told : ℕ) : Type 0 where
  pub piloted : (i : ℕ) → Has told i → ¬ (get_or pilots (used_table i) 0 ≡ 0)

-- how many words linked rules have
abbrev pub LINKED_WORDS : ℕ
LINKED_WORDS = FIRST_RULE + RULE_WORDS * MAX_RULES

-- so is each numbered rule; the tables are the same
pub record Linked (rules pilots : List ℕ) (which : ℕ) (linked : List ℕ) : Type 0 where
  pub told : ℕ
  pub told_uses : ToldUses pilots told
  pub same_tables : (r : ℕ) → Has which r → (j : ℕ) → j < FIRST_RULE → get_or linked j 0 ≡ get_or rules j 0
  pub each : (r : ℕ) → Has which r → LinkedRule rules pilots told linked r
  pub there : Lent linked which
  pub long : length linked ≡ LINKED_WORDS

-- the words of a list from `at` on are these four
abbrev pub written : List ℕ → ℕ → ℕ → ℕ → ℕ → ℕ → List ℕ
written l at a b c d = set (set (set (set l at a) (at + 1) b) (at + 2) c) (at + 3) d

-- one rule is linked, and no word elsewhere changed
pub record RuleLinked (rules pilots : List ℕ) (told r : ℕ) (before after : List ℕ) : Type 0 where
  pub same_length : length after ≡ length before
  pub here : LinkedRule rules pilots told after r
  pub elsewhere : (j : ℕ) → (j < rule_at r) ⊎ (rule_at r + RULE_WORDS ≤ j) → get_or after j 0 ≡ get_or before j 0

-- each numbered rule is, and no table changed
pub record RulesLinked (rules pilots : List ℕ) (told which : ℕ) (before after : List ℕ) : Type 0 where
  pub same_length : length after ≡ length before
  pub each : (r : ℕ) → Has which r → LinkedRule rules pilots told after r
  pub same_tables : (j : ℕ) → j < FIRST_RULE → get_or after j 0 ≡ get_or before j 0

-- no table has a pilot
pub record NoPilots (pilots : List ℕ) : Type 0 where
  pub each : (t : ℕ) → t < MAX_TABLES → get_or pilots t 0 ≡ 0

-- all words of the rules are there, and no table has a pilot
pub record Plain (rules pilots : List ℕ) : Type 0 where
  pub long : LINKED_WORDS ≤ length rules
  pub none : NoPilots pilots

-- each pilot is an input
pub record PilotsWithin (pilots : List ℕ) (inputs : ℕ) : Type 0 where
  pub each : (t : ℕ) → t < MAX_TABLES → get_or pilots t 0 ⊆ inputs
