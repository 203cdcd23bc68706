-- Inner: the table of woken steps: for each atom which steps may have something new to say once it is decided. Which steps are woken is free: one that is
-- left out costs pruning and no member.
use Rattle.std.specs.Prelude.{List, ℕ, ◌*◌}
use Rattle.atoms.specs.Word.{ATOMS, ◌∪◌, ◌∖◌, atom}
use Rattle.answer_sets.specs.Lent.{lent, negative, looks}
use Rattle.narrowing.specs.Marks.{NotedAt, ByOne}

-- its parts: rules to look at once an atom is up, and once it is dropped; atoms whose support to look at, likewise
abbrev pub RULES_UP : ℕ
RULES_UP = 0

abbrev pub RULES_DOWN : ℕ
RULES_DOWN = ATOMS

abbrev pub SUPPORTS_UP : ℕ
SUPPORTS_UP = 2 * ATOMS

abbrev pub SUPPORTS_DOWN : ℕ
SUPPORTS_DOWN = 3 * ATOMS

abbrev pub WOKEN_WORDS : ℕ
WOKEN_WORDS = 4 * ATOMS

-- what the body looks at beside its two words
abbrev pub either : List ℕ → ℕ → ℕ
either rules r = looks rules r ∖ negative rules r

-- the atoms by which the body may come to hold once they are up, and to fail once they are dropped
abbrev pub holds_up_of : List ℕ → ℕ → ℕ
holds_up_of rules r = (lent rules).positive r ∪ either rules r

-- the atoms by which it may come to fail, or the head has one up, once they are up; and to hold, or the head is without them, once they are dropped
abbrev pub fails_up : List ℕ → ℕ → ℕ
fails_up rules r = ((lent rules).head r ∪ negative rules r) ∪ either rules r

-- rule r has step q woken at place i: its own once its body may come to hold or its head has lost an atom, its head atoms' supports once its body may fail or
-- another head atom is up
pub data Wakes (rules : List ℕ) (r i q : ℕ) : Type 0 where
  rule_up : NotedAt RULES_UP (holds_up_of rules r) (atom r) i q → Wakes rules r i q
  support_down : NotedAt SUPPORTS_DOWN (holds_up_of rules r) ((lent rules).head r) i q → Wakes rules r i q
  rule_down : NotedAt RULES_DOWN (fails_up rules r) (atom r) i q → Wakes rules r i q
  support_up : NotedAt SUPPORTS_UP (fails_up rules r) ((lent rules).head r) i q → Wakes rules r i q

-- so has one of the rules
abbrev pub SomeWakes : List ℕ → ℕ → ℕ → ℕ → Type 0
SomeWakes rules which i q = ByOne (Wakes rules) which i q
