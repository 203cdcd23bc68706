-- What is promised of a listing: demands 1 to 3, and what the plan's lists mean, of which they speak.
use Rattle.std.specs.Prelude.{List, ℕ}
use Rattle.demands.specs.Demand1.{Demand1}
use Rattle.demands.specs.Demands.{Demand2, Demand3}
use Rattle.demands.specs.UnitsMean.{ListsMean}
use Rattle.demands.specs.declared.listing.Listing.{Listing}

pub record Promised (bytes table : List ℕ) (r : Listing) (table' : List ℕ) : Type 0 where
  pub demand_1 : Demand1 bytes table r table'
  pub demand_2 : Demand2 bytes table r
  pub demand_3 : Demand3 bytes table r table'
  pub meaning : ListsMean bytes
