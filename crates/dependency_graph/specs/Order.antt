-- The working order (document 01, Unit lists): "Units are worked lowest number first among those whose predecessors are done."
use Rattle.std.specs.Prelude.{Bool, true, false, not, ◌&&◌, List, [], ◌∷◌, ℕ, zero, suc, ◌<◌, ltb}
use Rattle.atoms.specs.Word.{Has, has, ◌∩◌, ◌∪◌, atom, below, subset}
use Rattle.atoms.specs.Collected.{lowest}
use Rattle.dependency_graph.specs.Units.{Units, Edge}

-- u is not done and its predecessors are
pub record Ready (S : Units) (done u : ℕ) : Type 0 where
  pub waits : ¬ Has done u
  pub predecessors_done : (v : ℕ) → Edge S u v → Has done v

-- the same, computed
unfoldable pub ready : Units → ℕ → ℕ → Bool
ready S done u = not (has done u) && subset (S.predecessors u ∩ below S.units) done

-- the unit that is worked next: "lowest number first among those whose predecessors are done"; where no unit is ready it is
-- the count of units, the number of the last list
unfoldable pub next_unit : Units → ℕ → ℕ
next_unit S done = lowest S.units (ready S done)

-- the units that are still worked, in their order, where those of `done` are done; `most` of them at most
unfoldable pub order_from : Units → ℕ → ℕ → List ℕ
order_from S zero done = []
order_from S (suc most) done =
    let u = next_unit S done in elim (ltb u S.units) [ true ↦ u ∷ order_from S most (done ∪ atom u) | false ↦ [] ]

-- the units in the order in which they are worked
unfoldable pub working_order : Units → List ℕ
working_order S = order_from S S.units 0

-- what the order says, from what is done: each unit is worked once, when it is the lowest that is ready, and in the end all are done
pub data InOrder (S : Units) : ℕ → List ℕ → Type 0 where
  all_done : {done : ℕ} → ((u : ℕ) → u < S.units → Has done u) → InOrder S done []
  next : {done u : ℕ} {us : List ℕ} → u < S.units → Ready S done u → ((v : ℕ) → v < u → ¬ Ready S done v)
      → InOrder S (done ∪ atom u) us → InOrder S done (u ∷ us)
