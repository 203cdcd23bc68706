use Rattle.joining.proofs.Face.{among_any, among_here, same_number}
use Rattle.joining.proofs.listed.contains.Goals as goal

pub returns-in-Ok : goal.returns-in-Ok
returns-in-Ok c = among_here _ _ c.in-Ok.field-0 c.in-Ok.ensures.bound (same_number _ _ (c.in-Ok.ensures.ok 0))

pub returns-in-Err : goal.returns-in-Err
returns-in-Err c = among_any _ _ _ c.contains.ensures.cases
