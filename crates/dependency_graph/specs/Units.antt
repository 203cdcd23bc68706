-- A program cut into units with edges between them (document 01, Terms): what the graph conditions and the unit lists look at.
use Rattle.std.specs.Prelude.{◌≡◌, ◌↔◌, ℕ, ◌<◌}
use Rattle.atoms.specs.Word.{Has}
use Rattle.answer_sets.specs.Program.{Program}

-- Rules and units by number. `looks r` is the word of the atoms that the rest of rule r's body looks at: its negative
-- atoms and the inputs of the tables it uses.
-- `given` are the atoms that a plan gives: "facts of the whole program" (02, S-1); `shown` are those that
-- its last list shows (S-11).
pub record Units : Type 0 where
  pub program : Program
  pub looks : ℕ → ℕ
  pub rules : ℕ
  pub units : ℕ
  pub unit : ℕ → ℕ
  pub predecessors : ℕ → ℕ
  pub given : ℕ
  pub shown : ℕ

-- "A unit is a set of rules": unit u holds rule r
pub record Holds (S : Units) (u r : ℕ) : Type 0 where
  pub is_unit : u < S.units
  pub is_rule : r < S.rules
  pub holds : Has (S.unit u) r

-- "Edge (u,v) says that unit u depends on unit v, a direct predecessor of u"
pub record Edge (S : Units) (u v : ℕ) : Type 0 where
  pub is_unit : u < S.units
  pub is_predecessor : v < S.units
  pub edge : Has (S.predecessors u) v

-- "u reaches each unit that a path along edges from u leads to"
pub data Path (S : Units) : ℕ → ℕ → Type 0 where
  one : {u v : ℕ} → Edge S u v → Path S u v
  more : {u v w : ℕ} → Edge S u v → Path S v w → Path S u w

-- the rest of a body depends on nothing but the atoms that it looks at
pub record LooksOnly (S : Units) : Type 0 where
  pub same : (r M N : ℕ) → ((a : ℕ) → Has (S.looks r) a → Has M a ↔ Has N a)
      → S.program.rest r M ≡ S.program.rest r N

-- "That no given atom is in a head is from here on one of document 01's graph conditions." (02, S-1)
pub record GivenFree (S : Units) : Type 0 where
  pub free : (r a : ℕ) → r < S.rules → Has (S.program.head r) a → ¬ Has S.given a
