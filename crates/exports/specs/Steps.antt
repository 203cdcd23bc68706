-- What a host is handed back where it goes from one position to the next (document 02, S-8).
use Rattle.std.specs.Prelude.{List, [], ◌∷◌, ℕ, Option, None, Some, Result, Ok, Err}
use Rattle.plan.specs.declared.fault.Fault.{Fault}
use Rattle.plan_meaning.specs.Read.{ReadMeans}
use Rattle.stepping.specs.Followed.{Follows, followed, next_code}
use Rattle.exports.specs.HandedOut.{copied}
use Rattle.exports.specs.Replies.{Replied}

-- the lent words afterwards: the position in the first, if there is one and there is room, and all others as they were
abbrev pub found_in : Result (Option ℕ) Fault → List ℕ → List ℕ
found_in (Ok (Some M)) found = copied (M ∷ []) found
found_in (Ok None) found = found
found_in (Err f) found = found

-- the next answer set of the plan's rules with its given atoms as facts, or that none is left
pub record NextHanded (bytes : List ℕ) (from : Option ℕ) (found found' : List ℕ) (r : ℕ) : Type 0 where
  pub replied : Replied next_code found_in (λ p. Follows p from) (followed bytes from) bytes found found' r
  pub meaning : ReadMeans bytes
