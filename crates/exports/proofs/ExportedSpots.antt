-- The spot of every refusal fits into its code: a short table's length, a place in the bytes that decide, a rule or a unit.
use Rattle.exports.proofs.Prelude.{◌≡◌, ap, ap₂, ◌∙◌, List, ℕ, ◌+◌, ◌*◌, ◌≤◌, min, arith, MAX_RULES, MAX_UNITS, RefusedBy, CODE_STEP, WIDEST_SPOT}
use Rattle.exports.proofs.Prelude.{refusal_code, IsByte, All, Contents, record_of, Lays, Stopped, reading_judged, FirstFault, table_place, reading_place}
use Rattle.exports.proofs.Prelude.{graph_place, work_place}
use Rattle.plan.specs.Faults.{Outcome}
use Rattle.plan.proofs.Refusals.{told}
use Rattle.reading.specs.Kinds.{rule, unit}
use Rattle.judge.proofs.Codes.{spot_at_most}
use Rattle.dependency_graph.specs.Units.{Units}
use Rattle.dependency_graph.specs.PlanUnits.{units_of}
use Rattle.dependency_graph.specs.Check.{VerdictRight, passes, row_16, row_10, row_11, row_12, row_13, row_14}
use Rattle.dependency_graph.specs.Order.{InOrder, all_done, next}
use Rattle.dependency_graph.proofs.Heads.{path_end}
use Rattle.demands.specs.Demands.{FirstLong, here, later, last}
use Rattle.demands.proofs.Answers.{not_accepted}

pub stopped_at_most : {bytes : List ℕ} {n s : ℕ} → All IsByte bytes → Stopped bytes n s → s ≤ WIDEST_SPOT
stopped_at_most {bytes} {n} {s} small st =
    let x = ((reading_judged bytes small).refused n s).1 st in
    omega (arith, spot_at_most bytes x.fault x.is, x.spot_is)

right_at_most : {S : Units} {o : Outcome} {n s : ℕ} → S.rules ≤ MAX_RULES → S.units ≤ MAX_UNITS → VerdictRight S o → RefusedBy o n s → s ≤ WIDEST_SPOT
right_at_most f g (passes p) r = absurd (not_accepted r.fault r.is)
right_at_most f g (row_16 l) r = omega (arith, (told r).1, l.here.is_rule)
right_at_most f g (row_10 h l) r = omega (arith, (told r).1, l.here.is_rule)
right_at_most f g (row_11 h a l) r = omega (arith, (told r).1, l.here.in_first.is_rule)
right_at_most {S} f g (row_12 h a b l) r = omega (arith, (told r).1, path_end S l.here.returns)
right_at_most f g (row_13 h a b y l) r = omega (arith, (told r).1, l.here.held.is_rule)
right_at_most f g (row_14 h a b y c l) r = omega (arith, (told r).1, l.here.is_rule)

long_at_most : {S : Units} {done u : ℕ} {us : List ℕ} → InOrder S done us → FirstLong S us u → u ≤ S.units
long_at_most (all_done d) (last l) = omega arith
long_at_most (next below r low o) (here l) = omega arith
long_at_most (next below r low o) (later l f) = long_at_most o f

few : {bytes : List ℕ} {c : Contents} → Lays bytes c → ((units_of (record_of c)).rules ≤ MAX_RULES) × ((units_of (record_of c)).units ≤ MAX_UNITS)
unfolding units_of record_of
few l = (l.within.under rule, l.within.under unit)

pub fault_at_most : {bytes table : List ℕ} {n s : ℕ} → All IsByte bytes → FirstFault bytes table n s → s ≤ WIDEST_SPOT
fault_at_most small (table_place l) = omega arith
fault_at_most small (reading_place l st) = stopped_at_most small st
fault_at_most small (graph_place l k w x) = right_at_most (few k).0 (few k).1 w x
fault_at_most small (work_place l k p o f) = omega (arith, long_at_most o f, (few k).1)

-- so the code is exact
pub code_exact : {o : Outcome} {n s : ℕ} (r : RefusedBy o n s) → s ≤ WIDEST_SPOT → refusal_code r.fault ≡ CODE_STEP * n + s
code_exact {n = n} {s = s} r l =
    let least : min WIDEST_SPOT s ≡ s = omega arith in
    ap₂ (λ (x y : ℕ). CODE_STEP * x + min WIDEST_SPOT y) r.number_is r.spot_is ∙ ap (λ (y : ℕ). CODE_STEP * n + y) least
