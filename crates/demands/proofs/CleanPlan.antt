-- A plan that reads names no predecessor that is not there.
use Rattle.demands.proofs.Prelude.{◌≡◌, List, ℕ, reading, IsByte, All, predecessors_there, Accepted, units_of, Clean}

pub plan_clean : (bytes : List ℕ) → All IsByte bytes → (reading bytes).outcome ≡ Accepted → Clean (units_of (reading bytes).plan)
unfolding units_of
plan_clean bytes b e = record { there = predecessors_there bytes b e }
