-- The units of a plan, and the head atoms that are handed up of them.
use Rattle.std.specs.Prelude.{◌≡◌, ℕ, ◌<◌, get_or}
use Rattle.answer_sets.specs.Lent.{lent, looks}
use Rattle.plan.specs.declared.record.Plan.{Plan}
use Rattle.dependency_graph.specs.declared.head_atoms.HeadAtoms.{HeadAtoms}
use Rattle.dependency_graph.specs.Units.{Units}
use Rattle.dependency_graph.specs.Heads.{heads, input_heads}

-- the rules, units, edges and given atoms of a plan: a unit is "one word, bit i for rule i"
unfoldable pub units_of : Plan → Units
units_of p = record {
  program = lent p.rules;
  looks = looks p.rules;
  rules = p.rule_count;
  units = p.unit_count;
  unit = λ u. get_or p.units u 0;
  predecessors = λ u. get_or p.predecessors u 0;
  given = p.once.given.word;
  shown = p.once.shown.word;
}

-- H(v) and Hp(v) of each unit v of the plan
pub record HeadsOf (p : Plan) (r : HeadAtoms) : Type 0 where
  pub heads_are : (v : ℕ) → v < p.unit_count → get_or r.heads v 0 ≡ heads (units_of p) v
  pub inputs_are : (v : ℕ) → v < p.unit_count → get_or r.inputs v 0 ≡ input_heads (units_of p) v
