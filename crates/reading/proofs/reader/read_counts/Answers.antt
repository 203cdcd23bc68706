-- `read_counts` meets its contract: behind a COUNT comes no second one, so one look is enough.
use Rattle.reading.proofs.Prelude.{refl, single, sizes, given, Reached, needs}
use Rattle.reading.proofs.Face.{start, Turn, taken, taken_fits, taken_there, passed_by, empty_fits}
use Rattle.reading.proofs.reader.read_counts.Goals as goal

pub place-progress-requires : goal.place-progress-requires
place-progress-requires c = rw c.empty_plan.ensures empty_fits

pub returns-in_default : goal.returns-in_default
returns-in_default c =
    let first : Reached (single sizes) c.args.bytes.now c.place-progress.result = start _ _ _ c.empty_plan.ensures c.place-progress.ensures in
    passed_by (single sizes) (single given) _ _ first (search needs) refl

pub place-requires : goal.place-requires
place-requires c =
    let first : Reached (single sizes) c.args.bytes.now c.place-progress.result = start _ _ _ c.empty_plan.ensures c.place-progress.ensures in
    let took : Turn first = (_, taken (single sizes) _ _ _ _ first c.in-Count.is refl) in
    taken_fits took.1 _ c.with_count-taken.ensures

pub returns : goal.returns
returns c =
    let first : Reached (single sizes) c.args.bytes.now c.place-progress.result = start _ _ _ c.empty_plan.ensures c.place-progress.ensures in
    let took : Turn first = (_, taken (single sizes) _ _ _ _ first c.in-Count.is refl) in
    taken_there took.1 _ c.with_count-taken.ensures _ c.place.ensures
