-- A plan that lost one whole command on its way. Document 02, S-10: "a plan sent over a noisy link lost one whole EDGE and still read well".
use Rattle.std.specs.Prelude.{◌≡◌, List, ◌∷◌, ◌++◌, ℕ, ◌<◌, length}
use Rattle.reading.specs.Kinds.{sizes}
use Rattle.reading.specs.Layout.{RuleWords, UnitPair, Contents, WithinLimits, CountRight}

-- the lists of c with these rules, units and edges in place of its own
abbrev pub having : Contents → List RuleWords → List ℕ → List UnitPair → Contents
having c rules units edges =
    record {
      once = c.once;
      tables = c.tables;
      rules = rules;
      uses = c.uses;
      units = units;
      edges = edges;
    }

-- d is what is left of c without one whole RULE, UNIT or EDGE
pub data Lost (c d : Contents) : Type 0 where
  a_rule : (front back : List RuleWords) (r : RuleWords) → c.rules ≡ front ++ (r ∷ back) → d ≡ having c (front ++ back) c.units c.edges → Lost c d
  a_unit : (front back : List ℕ) (word : ℕ) → c.units ≡ front ++ (word ∷ back) → d ≡ having c c.rules (front ++ back) c.edges → Lost c d
  an_edge : (front back : List UnitPair) (e : UnitPair) → c.edges ≡ front ++ (e ∷ back) → d ≡ having c c.rules c.units (front ++ back) → Lost c d

-- a plan that reads and has a COUNT
pub record Declares (c : Contents) : Type 0 where
  pub within : WithinLimits c
  pub counted : CountRight c
  pub some : 0 < length (c.once sizes)
