-- USEs on the record: what a use that is not bad has.
use Rattle.reading.proofs.Prelude.{◌≡◌, false, ℕ, ◌≤◌, ◌<◌, get_or, leb-false, ltb-false, has, wanted_bit, uses_at, bad_use, Plan}
use Rattle.reading.proofs.Edges.{or-false}

-- a use that is not bad names a rule and a table that are there, has sign 0 or 1, and is new
pub record NewUse (p : Plan) (r t sign : ℕ) : Type 0 where
  pub rule_there : r < p.rule_count
  pub table_there : t < p.table_count
  pub zero_or_one : sign ≤ 1
  pub fresh : has (get_or p.rules (uses_at r) 0) (wanted_bit t sign) ≡ false

pub not_bad_use : (p : Plan) (r t sign : ℕ) → bad_use p r t sign ≡ false → NewUse p r t sign
unfolding bad_use
not_bad_use p r t sign e =
    let a = or-false _ _ e in
    let b = or-false _ _ a.0 in
    let c = or-false _ _ b.0 in
    record { rule_there = leb-false _ _ c.0; table_there = leb-false _ _ c.1; zero_or_one = ltb-false _ _ b.1; fresh = a.1 }
