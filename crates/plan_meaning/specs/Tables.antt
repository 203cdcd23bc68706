-- What a contact table says at a position, said of its two words alone (document 02, S-4).
use Rattle.std.specs.Prelude.{◌≡◌, ◌↔◌, ℕ, length}
use Rattle.atoms.specs.Word.{Has, has}
use Rattle.atoms.specs.Rising.{members}
use Rattle.reading.specs.Layout.{TableWords}

-- "the k-th lowest input atom, counted from 0": an input with just k inputs below it
pub record KthInput (inputs k a : ℕ) : Type 0 where
  pub input : Has inputs a
  pub lower : length (members (has inputs) a) ≡ k

-- "bit k of j tells whether the k-th lowest input atom, counted from 0, is up"; j has no other bits
pub record RowAt (inputs M j : ℕ) : Type 0 where
  pub tells : (k a : ℕ) → KthInput inputs k a → Has j k ↔ Has M a
  pub no_others : (k : ℕ) → Has j k → (a : ℕ) × KthInput inputs k a

-- "Bit j of the truth word is the answer": the table is true at M
pub record TrueAt (t : TableWords) (M : ℕ) : Type 0 where
  pub row : ℕ
  pub at : RowAt t.inputs M row
  pub bit : Has t.truth row
