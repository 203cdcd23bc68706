-- The head atoms of a whole plan. proofs/HeadAtoms.antt: the word has just the atoms that are in the head of some rule.
use Rattle.std.specs.Prelude.{ℕ, ◌≤◌}
use Rattle.std.specs.Int.Count.{ones}
use Rattle.atoms.specs.Word.{below}
use Rattle.dependency_graph.specs.Units.{Units}
use Rattle.dependency_graph.specs.Heads.{rule_heads}

-- the head atoms of all rules; given atoms are in no head
unfoldable pub head_atoms_of : Units → ℕ
head_atoms_of S = rule_heads S (below S.rules)

-- n "atoms or fewer in heads"
pub record FewHeads (n : ℕ) (S : Units) : Type 0 where
  pub count : ones (head_atoms_of S) ≤ n
