-- The step added nothing that the pair names, or its reason takes the place of that.
use Rattle.explaining.proofs.Prelude.{leads_refl, replaced_leads, needs}
use Rattle.explaining.proofs.lift.lift_over.Goals as goal

pub returns-then-union-eq0 : goal.returns-then-union-eq0
returns-then-union-eq0 c = leads_refl

pub returns : goal.returns
returns c = search (replaced_leads, needs)
