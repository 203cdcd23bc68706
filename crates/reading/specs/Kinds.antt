-- The kinds of commands, by name alone. Document 01, "The plan", column "command".
use Rattle.std.specs.Prelude.{◌≡◌}

-- the commands that "may stand once": COUNT of document 02, S-10, GIVEN of S-1, SHOW of S-11
pub data Single : Type 0 where
  sizes given show : Single
  deriving Discrete as single-discrete

-- column "command", TABLE and USE of S-4, and those that may stand once
pub data Kind : Type 0 where
  single : Single → Kind
  table rule usage unit edge end : Kind
  deriving Discrete as kind-discrete-over

-- which of two kinds are the same
abbrev pub kind_discrete : (j k : Kind) → Dec (j ≡ k)
kind_discrete = kind-discrete-over single-discrete
