-- What the functions hand back, against the answer that document 01 gives.
use Rattle.std.specs.Prelude.{◌≡◌, List, ℕ}
use Rattle.plan.specs.declared.fault.Fault.{Fault}
use Rattle.plan.specs.Faults.{Refused}
use Rattle.demands.specs.LentTable.{no_counts_of}
use Rattle.demands.specs.Answer.{Answer}
use Rattle.demands.specs.declared.listing.Listing.{Listing}

-- "A refusal gives its number and spot, and counts all 0."
unfoldable pub refusal : Fault → Listing
refusal f = record { outcome = Refused f; counts = no_counts_of }

-- outcome, counts and every word of the table are the answer's
pub record Handed (a : Answer) (r : Listing) (table : List ℕ) : Type 0 where
  pub outcome_is : r.outcome ≡ a.outcome
  pub counts_are : r.counts ≡ a.counts
  pub table_is : table ≡ a.table
