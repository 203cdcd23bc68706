-- ReadPlan answers what `ReadingJudged` says: it accepts exactly the layouts of lists within the limits, and refuses by the first row that fits
-- behind the commands of such lists.
use Rattle.reading.proofs.Prelude.{◌≡◌, refl, ap, ◌∙◌, subst, List, ◌++◌, ℕ, arith, length, drop_at, number, spot, RefusedBy, FirstFit, empty_plan}
use Rattle.reading.proofs.Prelude.{command_at, step_of, reading, refused, Contents, commands, layout, record_of, IsByte, All, WithinLimits, CountRight}
use Rattle.reading.proofs.Prelude.{reading_place_of, Stopped, ReadingJudged, Plan, Outcome, Accepted, Refused, ReadPlan, Fault as Faulty}
use Rattle.reading.proofs.Numbers.{all_drop}
use Rattle.reading.proofs.Walk.{walk_ended, walk_keeps}
use Rattle.reading.proofs.Elements.{Few, few_within}
use Rattle.reading.proofs.Accepted.{Read, read_start, read_on, read_within, accepted_is_plan}
use Rattle.reading.proofs.RoundTrip.{commands_read, layout_is_read}
use Rattle.reading.proofs.FaultRows.{fault_is_first, first_is_fault}
use Rattle.plan.specs.declared.fault.Fault.{Fault}

-- ---- where reading refuses, a row stops the bytes

StopsBy : List ℕ → Outcome → Type 0
StopsBy bytes o = (f : Fault) → o ≡ Refused f → Stopped bytes (number f) (spot f)

accepted_stops_not : (bytes : List ℕ) → StopsBy bytes Accepted
unfolding StopsBy
accepted_stops_not bytes f e = absurd (let z : ◌≡◌ {A = ℕ} 0 1 = cc in omega arith)

fault_stops : (bytes : List ℕ) (p : Plan) (at : ℕ) (s : List ℕ) (f : Fault) → Read bytes p at s → command_at p at s ≡ Faulty f → StopsBy bytes (Refused f)
unfolding StopsBy
fault_stops bytes p at s f r e g same =
    let c = r.contents in
    let this : f ≡ g = cc in
    let there : command_at (record_of c) at s ≡ Faulty f = subst (λ (q : Plan). command_at q at s ≡ Faulty f) r.record_is e in
    let first = fault_is_first c r.held.few at s r.small f there in
    record {
      contents = c;
      within = read_within bytes p at s r;
      rest = s;
      split = r.bytes_are;
      first = subst (λ (n : ℕ). FirstFit (reading_place_of c n s) (number g) (spot g)) r.placed
          (subst (λ (x : Fault). FirstFit (reading_place_of c at s) (number x) (spot x)) this first);
    }

refused_stopped : (bytes : List ℕ) → All IsByte bytes → StopsBy bytes (reading bytes).outcome
unfolding reading
refused_stopped bytes small =
    walk_keeps (Read bytes) (λ x. StopsBy bytes x.outcome) (read_on bytes) (λ p at s r e n. accepted_stops_not bytes)
    (λ p at s f r e. fault_stops bytes p at s f r e) empty_plan 0 bytes (read_start bytes small)

-- ---- where a row stops the bytes, reading refuses

stopped_refused : (bytes : List ℕ) → All IsByte bytes → (n s : ℕ) → Stopped bytes n s → RefusedBy (reading bytes).outcome n s
stopped_refused bytes small n s h =
    let c = h.contents in
    let w = h.within in
    let at : ℕ = length (commands c) in
    let few : Few c = few_within w in
    let rest-small : All IsByte h.rest =
    subst (All IsByte) (drop_at (commands c) h.rest at refl) (all_drop IsByte at (commands c ++ h.rest) (subst (All IsByte) h.split small)) in
    let found = first_is_fault c few at h.rest rest-small n s h.first in
    let f = found.0 in
    let comes : reading bytes ≡ refused f =
    ap reading h.split ∙ commands_read c w h.rest ∙ walk_ended (record_of c) at h.rest (refused f) (ap (step_of (record_of c)) found.1) in
    record { fault = f; is = ap (λ (r : ReadPlan). r.outcome) comes; number_is = found.2; spot_is = found.3 }

pub reading_judged : (bytes : List ℕ) → All IsByte bytes → ReadingJudged bytes (reading bytes).outcome
unfolding StopsBy
reading_judged bytes small = record { accepted = (laid, read_so); refused = λ n s. (stops n s, stopped_refused bytes small n s) }
  where
    laid : (reading bytes).outcome ≡ Accepted → (c : Contents) × WithinLimits c × CountRight c × (bytes ≡ layout c)
    laid o = let p = accepted_is_plan bytes small o in (p.contents, p.within, p.counted, p.bytes_are)

    read_so : (c : Contents) × WithinLimits c × CountRight c × (bytes ≡ layout c) → (reading bytes).outcome ≡ Accepted
    read_so (c, w, n, e) = ap (λ (r : ReadPlan). r.outcome) (ap reading e ∙ layout_is_read c w n)

    stops : (n s : ℕ) → RefusedBy (reading bytes).outcome n s → Stopped bytes n s
    stops n s r =
        subst (λ (m : ℕ). Stopped bytes m s) r.number_is
        (subst (Stopped bytes (number r.fault)) r.spot_is (refused_stopped bytes small r.fault r.is))
