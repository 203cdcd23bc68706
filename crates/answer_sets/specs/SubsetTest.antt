-- Inner: the statements of the subset test's functions.
use Rattle.std.specs.Prelude.{◌≡◌, Bool, true, false, List, ℕ, ◌<◌}
use Rattle.std.specs.declared.option.Option.{Option}
use Rattle.std.specs.declared.option.Option.TheVariants.{Some, None}
use Rattle.atoms.specs.Word.{ATOMS, EVERY_ATOM, Has, ◌⊆◌, ◌⊂◌, outside}
use Rattle.atoms.specs.Bounded.{Decides}
use Rattle.answer_sets.specs.Program.{Program, Satisfies, SatisfiesAll}
use Rattle.answer_sets.specs.Lent.{Lent, lent, looks}
use Rattle.states.specs.State.{Completes}
use Rattle.states.specs.declared.state.State.{State}
use Rattle.answer_sets.specs.declared.smaller.Smaller.{Smaller}

-- some completion of the state is a proper subset of M and satisfies each rule of the word
pub record Between (P : Program) (which M : ℕ) (s : State) : Type 0 where
  pub set : ℕ
  pub proper : set ⊂ M
  pub completes : Completes s set
  pub satisfied : SatisfiesAll P which set

-- whether there is such a set, and beside it one, or 0
pub record Finds (P : Program) (which M : ℕ) (s : State) (found : Bool) (set : ℕ) : Type 0 where
  pub exactly : Decides (Between P which M s) found
  pub shown : found ≡ true → (b : Between P which M s) × (b.set ≡ set)
  pub none : found ≡ false → set ≡ 0

-- as many branchings as it takes
abbrev pub UNBOUNDED : ℕ
UNBOUNDED = EVERY_ATOM

-- of as many branchings as it takes as many are left
pub record Lasts (before after : ℕ) : Type 0 where
  pub unbounded : before ≡ UNBOUNDED → after ≡ UNBOUNDED

-- the same of a test that had so many branchings: where none is left nothing is said
pub record Tries (P : Program) (which M : ℕ) (s : State) (left : ℕ) (r : Smaller) : Type 0 where
  pub told : ¬ (r.left ≡ 0) → Finds P which M s r.found r.set
  pub lasts : Lasts left r.left

-- the state that the subsets of the position with all the facts complete
abbrev pub subsets_of : ℕ → ℕ → State
subsets_of facts M = record { up = facts; dropped = outside M }

-- every atom outside the position is dropped, so that completions lie within it
pub record Confines (M dropped : ℕ) : Type 0 where
  pub outside : (i : ℕ) → i < ATOMS → ¬ Has M i → Has dropped i

-- a test that finds a smaller set for any rules that are lent and any state whose completions lie within the position
pub record TestsBetween (rules : List ℕ) (position : ℕ) (may : ℕ → State → Type 0) (gives : ℕ → State → Smaller → Type 0) : Type 0 where
  pub asked : (which : ℕ) (s : State) → Lent rules which → Confines position s.dropped → may which s
  pub told : (which : ℕ) (s : State) (r : Smaller) → gives which s r → Finds (lent rules) which position s r.found r.set

-- a rule of the word that the position does not satisfy, or it satisfies them all
abbrev pub Unsatisfied : Program → ℕ → ℕ → Option ℕ → Type 0
Unsatisfied P which M (Some r) = Has which r × ¬ Satisfies P r M
Unsatisfied P which M None = SatisfiesAll P which M

-- atom i stands in rule r: in its head, its positive word, its negative word or among the inputs of a table it uses
pub data InRule (rules : List ℕ) (r i : ℕ) : Type 0 where
  in_head : Has ((lent rules).head r) i → InRule rules r i
  in_positive : Has ((lent rules).positive r) i → InRule rules r i
  in_looks : Has (looks rules r) i → InRule rules r i

-- w holds atoms of `free`, and none only where no atom of rule r is in `free`
pub record Candidates (rules : List ℕ) (r free w : ℕ) : Type 0 where
  pub within : w ⊆ free
  pub none_left : w ≡ 0 → (i : ℕ) → InRule rules r i → (i < ATOMS) × ¬ Has free i
