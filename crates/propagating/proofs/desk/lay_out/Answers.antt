-- The desk is put together of five parts, and each stands where it is looked for.
use Rattle.propagating.proofs.Prelude.{needs}
use Rattle.propagating.proofs.Face.{laid_out}
use Rattle.propagating.proofs.desk.lay_out.Goals as goal

pub returns : goal.returns
returns c =
    laid_out _ _ _ c.wake_index-index.result _ _ (search needs) c.requires.1 (search needs) (search needs) (search needs)
    c.backers-backers.ensures
    (search needs)
    c.store.ensures
    c.store-2.ensures
    c.store-3.ensures
    c.store-4.ensures
    (search needs)
    (search needs)
