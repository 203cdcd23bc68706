-- A contact table: an input word and a truth word (document 02, S-4).
use Rattle.std.specs.Prelude.{Bool, ℕ, zero, suc, ◌+◌}
use Rattle.atoms.specs.Word.{ATOMS, digit, has, ◌∩◌, atom, below}
use Rattle.atoms.specs.Bounded.{union_in}
use Rattle.plan.specs.Limits.{MAX_INPUTS}

-- how many inputs are lower than atom a: an input is "the k-th lowest input atom, counted from 0" for k its place
unfoldable pub place : ℕ → ℕ → ℕ
place inputs zero = 0
place inputs (suc a) = place inputs a + digit inputs a

-- the row of the table at M: "bit k of j tells whether the k-th lowest input atom, counted from 0, is up"
unfoldable pub row : ℕ → ℕ → ℕ
row inputs M = union_in ATOMS (inputs ∩ M) (λ a. atom (place inputs a)) ∩ below MAX_INPUTS

-- "Bit j of the truth word is the answer"
unfoldable pub table_answer : ℕ → ℕ → ℕ → Bool
table_answer inputs truth M = has truth (row inputs M)
