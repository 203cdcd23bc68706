-- Inputs and unit lists as they compute (document 01, Unit lists). proofs/Decided.antt: they are those of `Listed`.
use Rattle.std.specs.Prelude.{Bool, true, false, ◌&&◌, List, ℕ, zero, suc}
use Rattle.atoms.specs.Word.{◌∩◌, below, subset}
use Rattle.atoms.specs.Bounded.{all_in, some_below}
use Rattle.atoms.specs.Rising.{members}
use Rattle.atoms.specs.Cuts.{cut_list}
use Rattle.answer_sets.specs.Test.{answer_set}
use Rattle.dependency_graph.specs.Units.{Units}
use Rattle.dependency_graph.specs.Heads.{reach, heads, input_heads}
use Rattle.splitting.specs.UnitList.{with_last}

-- "A position J is an input of u if J has only atoms of H(v) for direct predecessors v, and J cut to H(v) is in v's list for each such v."
unfoldable pub is_input : Units → (ℕ → ℕ → Bool) → ℕ → ℕ → Bool
is_input S in_list_of u J =
    subset S.given J
    && (subset J (input_heads S u) && all_in S.units (S.predecessors u) (λ v. in_list_of v (J ∩ heads S v)))

-- "The list of u holds M exactly if, for some input J, M is an answer set of u's rules with J's atoms added as facts."
-- The first number bounds how deep the predecessors go.
unfoldable pub in_list : Units → ℕ → ℕ → ℕ → Bool
in_list S zero u M = false
in_list S (suc depth) u M =
    some_below (suc (input_heads S u))
    (λ J.
    elim (answer_set S.program (S.unit u ∩ below S.rules) J M) [
      | true ↦ is_input S (in_list S depth) u J
      | false ↦ false
    ])

-- the list of u, rising; an edge leads to a unit that reaches less, so what u reaches is depth enough
unfoldable pub unit_list_of : Units → ℕ → List ℕ
unit_list_of S u = members (in_list S (suc (reach S u)) u) (suc (heads S u))

-- "The last list is that of one more unit, with no rules and an edge to every unit"; it holds, "once each and rising, the answer sets cut
-- to shown atoms" (02, S-11)
unfoldable pub last_list_of : Units → List ℕ
last_list_of S = cut_list S.shown (unit_list_of (with_last S) S.units)
