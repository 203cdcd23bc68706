-- What a host is handed back of the few constraints that empty a plan (document 02, S-13).
use Rattle.std.specs.Prelude.{List, [], ◌∷◌, ℕ, Result, Ok, Err}
use Rattle.plan.specs.declared.fault.Fault.{Fault}
use Rattle.blaming.specs.Blamed.{LeastOrBlamed, BlameMeans, blamed, blame_code}
use Rattle.blaming.specs.declared.Blame.{Blame}
use Rattle.blaming.specs.declared.Blame.TheVariants.{Position, Held}
use Rattle.exports.specs.HandedOut.{copied}
use Rattle.exports.specs.Replies.{Replied}

-- the lent words afterwards: position or held constraints in the first, if there is room, and all others as they were
abbrev pub word_in : Result Blame Fault → List ℕ → List ℕ
word_in (Ok (Position M)) found = copied (M ∷ []) found
word_in (Ok (Held w)) found = copied (w ∷ []) found
word_in (Err f) found = found

-- the least answer set of the plan's rules with its given atoms as facts, or what is blamed where there is none
pub record BlameHanded (bytes found found' : List ℕ) (r : ℕ) : Type 0 where
  pub replied : Replied blame_code word_in LeastOrBlamed (blamed bytes) bytes found found' r
  pub meaning : BlameMeans bytes
