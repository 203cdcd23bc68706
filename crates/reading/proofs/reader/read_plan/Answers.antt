-- `read_plan` meets its contract: behind all EDGEs and the SHOW stands END or a fault. What `reading` gives is judged by `reading_judged`.
use Rattle.reading.proofs.Prelude.{◌≡◌, sym, ap, ◌∙◌, subst, List, ℕ, IsByte, All, Records, accepted, refused, reading, ReadingJudged, ReadPlan, needs}
use Rattle.reading.proofs.Face.{accepted_here, refused_here, all_bytes}
use Rattle.reading.proofs.JudgedBytes.{reading_judged}
use Rattle.reading.proofs.RoundTrip.{layout_is_read}
use Rattle.reading.proofs.reader.read_plan.Goals as goal

-- what is handed back has the other parts of the contract too
judged_by : {bytes : List ℕ} → All IsByte bytes → {r : ReadPlan} → r ≡ reading bytes → ReadingJudged bytes r.outcome
judged_by {bytes} small e = subst (λ (x : ReadPlan). ReadingJudged bytes x.outcome) (sym e) (reading_judged bytes small)

records_by : {bytes : List ℕ} {r : ReadPlan} → r ≡ reading bytes → Records bytes r.plan
records_by e = record { of_lists = λ c l. ap (λ (x : ReadPlan). x.plan) (e ∙ ap reading l.bytes_are ∙ layout_is_read c l.within l.counted) }

pub returns-in-Fault : goal.returns-in-Fault
returns-in-Fault c =
    let small : All IsByte c.args.plan.now = all_bytes c.args.plan.now (λ i. (c.type_inv.plan i).fits) in
    let e : refused c.in-Fault.fault ≡ reading c.args.plan.now = refused_here _ _ c.read_shows-shows.ensures _ c.in-Fault.is in
    record { read = e; judged = judged_by small e; records = records_by e }

pub returns-in_default : goal.returns-in_default
returns-in_default c =
    let small : All IsByte c.args.plan.now = all_bytes c.args.plan.now (λ i. (c.type_inv.plan i).fits) in
    let e : accepted c.read_shows-shows.result.plan ≡ reading c.args.plan.now = accepted_here _ _ c.read_shows-shows.ensures (search needs) in
    record { read = e; judged = judged_by small e; records = records_by e }
