-- The rule is numbered, so its words are there.
use Rattle.atoms.proofs.Singles.{numbered_by}
use Rattle.explaining.proofs.reasons.numbered_atoms.Goals as goal

pub rule_atoms-requires : goal.rule_atoms-requires
rule_atoms-requires c = c.requires.0.each _ (numbered_by _ _ c.single.ensures c.are_apart.ensures c.if-are_apart.false)
