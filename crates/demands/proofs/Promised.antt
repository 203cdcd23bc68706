-- What is handed back has demands 1 to 3.
use Rattle.demands.proofs.Prelude.{List, ℕ, IsByte, All, answer, Handed, Listing}
use Rattle.demands.specs.Promised.{Promised}
use Rattle.demands.proofs.Demand1.{demand_1}
use Rattle.demands.proofs.Demand2.{demand_2}
use Rattle.demands.proofs.Demand3.{demand_3}
use Rattle.demands.proofs.UnitsMean.{lists_mean}

pub promised : {bytes table : List ℕ} → All IsByte bytes → {r : Listing} {table' : List ℕ} → Handed (answer bytes table) r table'
    → Promised bytes table r table'
promised {bytes} {table} all {r} {table'} h = record {
  demand_1 = demand_1 bytes table all h;
  demand_2 = demand_2 bytes table r table' h;
  demand_3 = demand_3 bytes table all r table' h;
  meaning = lists_mean bytes;
}
