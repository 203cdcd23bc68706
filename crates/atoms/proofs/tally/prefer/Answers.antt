-- Some atoms are in both, or all of the word are left.
use Rattle.atoms.proofs.Prelude.{subst, ℕ, Has}
use Rattle.atoms.proofs.Face.{subset_refl, cut_left, preferred_word, preferred_both}
use Rattle.atoms.proofs.tally.prefer.Goals as goal

pub returns-then-both-eq0 : goal.returns-then-both-eq0
returns-then-both-eq0 c = record {
  some = record { within = subset_refl; some = c.requires };
  is = preferred_word _ _ c.cut-both.ensures c.if-both-eq0.true;
}

pub returns : goal.returns
returns c = record {
  some = record {
    within = record { each = λ i h. cut_left c.args.word c.args.better (subst (λ (w : ℕ). Has w i) c.cut-both.ensures h) };
    some = c.if-both-eq0.false;
  };
  is = preferred_both _ _ c.cut-both.ensures c.if-both-eq0.false;
}
