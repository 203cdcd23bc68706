-- What a lent sheet holds after a writing, and the answer.
use Rattle.std.specs.Prelude.{ℕ, ◌+◌, ◌≡◌, true, false, List, ◌++◌, leb, length, drop, Result, Ok, Err}
use Rattle.std.proofs.lemmas.List.Edits.{sets}
use Rattle.sheet.specs.declared.TooShort.{TooShort}

-- the answer: how many bytes were written, if the lent sheet has room for all
unfoldable pub bytes_written : List ℕ → List ℕ → Result ℕ TooShort
bytes_written bytes sheet = elim (leb (length bytes) (length sheet)) [ true ↦ Ok (length bytes) | false ↦ Err (record {}) ]

-- the lent sheet afterwards: the bytes and then its old ones from there on, if it has room for all, and otherwise as it was
unfoldable pub filled : List ℕ → List ℕ → List ℕ
filled bytes sheet = elim (leb (length bytes) (length sheet)) [ true ↦ bytes ++ drop (length bytes) sheet | false ↦ sheet ]

-- the bytes were written into the sheet from `at` on, and `next` is the place behind them
pub record Put (bytes : List ℕ) (at : ℕ) (before after : List ℕ) (next : ℕ) : Type 0 where
  pub behind : next ≡ at + length bytes
  pub holds : after ≡ sets before at bytes
