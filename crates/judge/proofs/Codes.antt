-- Answers as numbers: a code has the fault's number and its spot, for plans of any length, since the first bytes decide.
use Rattle.judge.proofs.Prelude.{◌≡◌, ap, ◌∙◌, List, ℕ, ◌+◌, ◌*◌, ◌≤◌, min, arith, length, take, length-take, CODE_STEP, WIDEST_SPOT, number, spot}
use Rattle.judge.proofs.Prelude.{reading, DECIDING_BYTES, ReadPlan, Refused as RefusedWith, Fault, asked_refused, settled_in, judged, judge_code}
use Rattle.reading.proofs.Prefix.{reading_prefix}
use Rattle.std.specs.Prelude.{Err}
use Rattle.judge.proofs.Spots.{spot_within}

-- "every reading fault .. shows within 2,467", and 1,305 more with GIVEN, TABLEs and USEs
pub spot_at_most : (bytes : List ℕ) (f : Fault) → (reading bytes).outcome ≡ RefusedWith f → spot f ≤ DECIDING_BYTES
spot_at_most bytes f e =
    let same : reading (take DECIDING_BYTES bytes) ≡ reading bytes = reading_prefix DECIDING_BYTES bytes (omega arith) in
    let within : spot f ≤ length (take DECIDING_BYTES bytes) =
    spot_within (take DECIDING_BYTES bytes) f (ap (λ (r : ReadPlan). r.outcome) same ∙ e) in
    omega (arith, length-take DECIDING_BYTES bytes)

-- the code of a refused plan has the fault's number and its spot
pub code_exact : (bytes : List ℕ) (position : ℕ) (f : Fault) → (reading bytes).outcome ≡ RefusedWith f
    → judge_code (judged bytes position) ≡ CODE_STEP * number f + spot f
code_exact bytes position f e =
    let least : min WIDEST_SPOT (spot f) ≡ spot f = omega (arith, spot_at_most bytes f e) in
    ap judge_code (asked_refused Err (settled_in position) bytes f e) ∙ ap (λ (x : ℕ). CODE_STEP * number f + x) least
