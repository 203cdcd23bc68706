-- What the rules, units and edges are of which demands 1 to 3 speak, by the sentences of documents 01 and 02, of a plan's lists alone.
use Rattle.std.specs.Prelude.{◌≡◌, ◌↔◌, ℕ, ◌<◌, length}
use mathlib.Core.List.{List, Memᴰ}
use Rattle.atoms.specs.Word.{ATOMS, Has}
use Rattle.reading.specs.Kinds.{given, show}
use Rattle.reading.specs.Layout.{RuleWords, UnitPair, Contents, Lays}
use Rattle.reading.specs.Reading.{reading}
use Rattle.plan_meaning.specs.Meaning.{Number, LooksAt, RuleMeans}
use Rattle.plan_meaning.specs.Read.{ReadMeans}
use Rattle.dependency_graph.specs.Units.{Units, Holds, Edge}
use Rattle.dependency_graph.specs.PlanUnits.{units_of}
use Rattle.demands.specs.Demand1.{units_in}

-- S is the lists' program cut into units
pub record UnitsMean (c : Contents) (S : Units) : Type 0 where
  -- "Rules and units are numbered from 0 as they come."
  pub rule_count_is : S.rules ≡ length c.rules
  pub unit_count_is : S.units ≡ length c.units
  -- "A rule has three sets: head, positive body, negative body", and its uses
  pub rule : (r : ℕ) (w : RuleWords) → Number c.rules r w → RuleMeans c S.program r w
  -- what a nonmonotonic dependence is by: "a negative body atom", or "an input atom of a table it uses, whichever the sign", and nothing else
  pub looks_at : (r : ℕ) (w : RuleWords) → Number c.rules r w → (a : ℕ) → Has (S.looks r) a ↔ LooksAt c r w a
  -- "UNIT: one word, bit i for rule i"
  pub holds : (u r : ℕ) → Holds S u r ↔ ((word : ℕ) × Number c.units u word × Has word r)
  -- "Edge (u,v) says that unit u depends on unit v"
  pub edge : (u v : ℕ) → Edge S u v ↔ ((e : UnitPair) × Memᴰ e c.edges × (e.u ≡ u) × (e.v ≡ v))
  -- S-1: "Its atoms are facts of the whole program"
  pub given : (a : ℕ) → Has S.given a ↔ ((word : ℕ) × Memᴰ word (c.once given) × Has word a)
  -- S-11: "without it all 64 atoms show"
  pub shown : (a : ℕ) → a < ATOMS → Has S.shown a ↔ ((word : ℕ) → Memᴰ word (c.once show) → Has word a)

-- what was read of a plan's bytes means what its lists say, and so do the units of the lists and of what was read
pub record ListsMean (bytes : List ℕ) : Type 0 where
  pub record_means : ReadMeans bytes
  pub units_mean : (c : Contents) → Lays bytes c → UnitsMean c (units_in c)
  pub read_units_mean : (c : Contents) → Lays bytes c → UnitsMean c (units_of (reading bytes).plan)
