-- Inner: one rule of the loop that is left with the constraints.
use Rattle.std.specs.Prelude.{true, false, ℕ, eqb}
use Rattle.atoms.specs.Word.{◌∖◌, atom}

-- the word without rule r where its head is not empty
unfoldable pub unless_headed : ℕ → ℕ → ℕ → ℕ
unless_headed head r word = elim (eqb head 0) [ true ↦ word | false ↦ word ∖ atom r ]
