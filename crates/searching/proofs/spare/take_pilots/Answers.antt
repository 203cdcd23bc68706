-- What was tested, or none.
use Rattle.searching.proofs.Face.{no_pilots, none_down}
use Rattle.searching.proofs.spare.take_pilots.Goals as goal

pub returns-then-tables-eq0 : goal.returns-then-tables-eq0
returns-then-tables-eq0 c = record { piloted = no_pilots; down = none_down }

pub returns : goal.returns
returns c = record { piloted = no_pilots; down = none_down }
