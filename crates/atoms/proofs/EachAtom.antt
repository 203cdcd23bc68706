-- The atoms of a word one after the other: where they begin.
use Rattle.atoms.proofs.Prelude.{◌≡◌, ap, ◌∙◌, ℕ}
use Rattle.atoms.specs.declared.each_atom.Members.{Members}

-- all of the word's atoms are still to come
pub each_of : {s t : Members} {word : ℕ} → s ≡ t → t ≡ record { rest = word } → s.rest ≡ word
each_of e f = ap (λ (s : Members). s.rest) (e ∙ f)

-- and of another word that is the same
pub each_from : {s t : Members} {word which : ℕ} → s ≡ t → t ≡ record { rest = word } → word ≡ which → s.rest ≡ which
each_from e f g = each_of e f ∙ g
