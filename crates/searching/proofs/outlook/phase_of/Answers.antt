-- Much was learnt, or the rules that may back the atom tell: they are some of the unit's.
use Rattle.searching.proofs.Prelude.{arith, decides_iff}
use Rattle.searching.proofs.outlook.phase_of.Goals as goal

pub returns : goal.returns
returns c =
    decides_iff
    (λ w. record { few = omega (arith, c.if-learnt_pairs-ge-MANY.false, c.learnt_pairs.ensures.is); wide = rw c.backing.ensures.is at w })
    (λ t. rw c.backing.ensures.is t.wide) c.some_wide.ensures
