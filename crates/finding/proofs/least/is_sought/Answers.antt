-- Behind the place, and none of the words.
use Rattle.std.proofs.lemmas.Bool.Decides.{Decides-eqb}
use Rattle.std.proofs.lemmas.List.Elements.{contains_decides}
use Rattle.atoms.proofs.Kit.{eqb}
use Rattle.finding.proofs.Face.{among_told, sought_new}
use Rattle.finding.proofs.least.is_sought.Goals as goal

pub returns-then-is_behind : goal.returns-then-is_behind
returns-then-is_behind c =
    sought_new c.is_behind.ensures c.if-is_behind.true (among_told _ (contains_decides eqb Decides-eqb _ _ _ c.contains.ensures.cases))
