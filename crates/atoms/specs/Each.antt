-- The atoms of a word one after the other, the lowest first.
use Rattle.std.specs.Prelude.{◌≡◌, ℕ, ◌<◌}
use Rattle.std.specs.Option.{MatchOption}
use Rattle.std.specs.declared.option.Option.{Option}
use Rattle.atoms.specs.Word.{ATOMS, Lowest, ◌∖◌, atom}

-- i is the lowest atom of the word, and `rest` is the word without it
pub record TakenLowest (word i rest : ℕ) : Type 0 where
  pub lowest : Lowest word i
  pub few : i < ATOMS
  pub less : rest ≡ word ∖ atom i

-- what comes next of a word: nothing where it is empty, and else its lowest atom
abbrev pub NextAtom : ℕ → Option ℕ → ℕ → Type 0
NextAtom word next rest = MatchOption next ((word ≡ 0) × (rest ≡ 0)) (λ i. TakenLowest word i rest)
